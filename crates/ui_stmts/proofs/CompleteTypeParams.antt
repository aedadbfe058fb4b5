-- Type parameters are read: bounds, and lists of them behind the bracket.
use Rattle.std.proofs.Common.{◌≡◌, ℕ, zero, suc, pred, max, ◌≤◌, Bool, true, false, cond, List, [], ◌∷◌, ◌++◌, Some, None, Ok, refl, sym, ap, subst, ◌∙◌, append_assoc, arith}
use Rattle.std.proofs.lemmas.List.{append-nil}
use Rattle.ui_base.specs.declared.value.Spot.{Spot}
use Rattle.ui_scan.specs.declared.kind.TokenKind.TheVariants.{RBracket, Comma, Tilde}
use Rattle.ui_tree.specs.declared.part.Placed.{Placed}
use Rattle.ui_tree.specs.declared.part.Group.{Group}
use Rattle.ui_tree.specs.Tree.{TypeTree, union, tilde, Types, types_end, type_and, Groups, groups_end, group_and}
use Rattle.ui_tree.specs.View.{groups, kept}
use Rattle.ui_grammar.specs.Word.{Word, ident, mark, Mark, Begins, NamesTail, Closes}
use Rattle.ui_grammar.specs.Both.{is_length}
use Rattle.ui_grammar.specs.Spells.{SpellsType, SpellsTermsTail, SpellsGroups, SpellsGroupsTail}
use Rattle.ui_grammar.specs.Fits.{bound, type_depth, types_depth, groups_depth, all_named, FitsType, FitsGroups}
use Rattle.ui_grammar.specs.Declaration.{SpellsTypeParams}
use Rattle.ui_parse.specs.Reader.{Outcome, Reader, and_then, first, marked, expect, parts, more_parts}
use Rattle.ui_parse.proofs.Outcomes.{take_mark, take_other, expect_mark, expect_name_ident}
use Rattle.ui_parse.proofs.TurnLaws.{GoesOn, parts_step, parts_close, more_next, more_ends}
use Rattle.ui_syntax.specs.Types.{of_type, group, is_empty, union_from}
use Rattle.ui_syntax.specs.Read.{readers}
use Rattle.ui_syntax.proofs.Quiet.{Stop, stop_at, stop_comma, stop_bracket, stop_mark, stop_closes, no_type_stop, not_or_stop, quiet_type_stop}
use Rattle.ui_syntax.proofs.Places.{TermCase, one_type, with_tilde, term_case}
use Rattle.ui_syntax.proofs.FirstWords.{same_spot}
use Rattle.ui_syntax.proofs.Steady.{readers_steady}
use Rattle.ui_syntax.proofs.CompleteTypesBase.{Below, not_type_first, group_list}
use Rattle.ui_syntax.proofs.CompleteTypesLists.{pick_same}
use Rattle.ui_syntax.proofs.CompleteTypesPlain.{plain_read, no_plain_type}
use Rattle.ui_syntax.proofs.CompleteTypesUnion.{QuietTerm, quiet_term, terms_quiet, plain_is, union_is}
use Rattle.ui_syntax.proofs.CompleteExprsTrees.{type_read_as}
use Rattle.ui_syntax.proofs.Complete.{readers_complete}
use Rattle.ui_stmts.specs.Decls.{TypeParams, no_type_params, add_bound, type_params_ending, maybe_bound, type_param, type_params, apart, type_params_apart}
use Rattle.ui_stmts.proofs.SteadyDecls.{steady_type_param}

one_below : (room : ℕ) → 1 ≤ room → room ≡ suc (pred room)
one_below zero le = absurd (omega arith)
one_below (suc d) le = refl

pub readers_below : (room : ℕ) → Below room (pred room) (readers room)
readers_below room = record { below = one_below room; own = (readers_complete room).own; lower = (readers_complete room).lower; steady = readers_steady room }

stop_no_dot : (ts : List Word) → Stop ts → QuietTerm ts
stop_no_dot ts s = record { no_type = no_type_stop ts s; no_dot = (quiet_type_stop (union (record { line = 0; col = 0 }) types_end) ts s).no_dot }

-- what was read before, and then these
abbrev pub with_params : TypeParams → Groups → TypeParams
with_params ps gs = record { groups = ps.groups ++ group_list gs; waiting = []; depth = max ps.depth (groups_depth gs) }

same_params : (gs hs : List (Group TypeTree)) (ws vs : List Placed) (j k : ℕ) → gs ≡ hs → ws ≡ vs → j ≡ k → ◌≡◌ {A = TypeParams} (record { groups = gs; waiting = ws; depth = j }) (record { groups = hs; waiting = vs; depth = k })
same_params gs hs ws vs j k e f d = rw (e, f, d) refl

module _ (room : ℕ) where
  abbrev has : Below room (pred room) (readers room)
  has = readers_below room

  -- ---- bounds

  union_bound : (x : Spot) (t : TypeTree) (us : Types) (ts a rest : List Word) → Begins x ts → SpellsType t ts a → TermCase t → SpellsTermsTail us a rest → FitsType (union x (type_and t us)) bound → types_depth (type_and t us) ≤ suc room → Stop rest
      → maybe_bound room ts ≡ Ok (Some (of_type (union x (type_and t us)) x (types_depth (type_and t us))), rest)
  union_bound x t us ts a rest begins s (one_type fits) tail f le stops =
      let r = plain_read room (pred room) (readers room) has t ts a s fits (omega (arith, le)) (quiet_term t a (terms_quiet us a rest tail (stop_no_dot rest stops))) in
      take_other (marked Tilde) _ _ ts (not_type_first Tilde (λ _. refl) t ts a s fits)
      ∙ rw (type_read_as r) (union_is room (pred room) (readers room) has t us r.read.spot a rest tail f.1.1 (omega (arith, le)) (stop_no_dot rest stops) (not_or_stop rest stops))
      ∙ ap (λ (y : Spot). Ok (Some (of_type (union y (type_and t us)) y (types_depth (type_and t us))), rest)) (same_spot r.read.spot x ts r.begins begins)
  union_bound x t us ts a rest begins s (with_tilde y u e fits) tail f le stops =
      let spelled : SpellsType (tilde y u) ts a = subst (λ (v : TypeTree). SpellsType v ts a) e s in
      let r = plain_is room (pred room) (readers room) has u spelled.0 a spelled.2 fits (omega (arith, le, ap type_depth e)) (terms_quiet us a rest tail (stop_no_dot rest stops)) in
      let d : type_depth u ≡ type_depth t = ap type_depth (sym e) in
      let b : Begins y ts = subst (Begins y) (sym spelled.1) refl in
      ap (maybe_bound room) spelled.1 ∙ take_mark Tilde _ _ y spelled.0
      ∙ rw (r.is, d) (ap (λ (v : TypeTree). union_from room (readers room) (of_type v y (type_depth t)) a) (sym e)
      ∙ union_is room (pred room) (readers room) has t us y a rest tail f.1.1 (omega (arith, le)) (stop_no_dot rest stops) (not_or_stop rest stops))
      ∙ ap (λ (z : Spot). Ok (Some (of_type (union z (type_and t us)) z (types_depth (type_and t us))), rest)) (same_spot y x ts b begins)

  pub record BoundReads (t : TypeTree) (ts rest : List Word) : Type 0 where
    pub spot : Spot
    pub is : maybe_bound room ts ≡ Ok (Some (of_type t spot (type_depth t)), rest)

  -- a bound is a union
  pub bound_reads : (t : TypeTree) (ts rest : List Word) → SpellsType t ts rest → FitsType t bound → type_depth t ≤ suc room → Stop rest → BoundReads t ts rest
  bound_reads (union x types_end) ts rest s f le stops = absurd s.1
  bound_reads (union x (type_and t us)) ts rest s f le stops = record { spot = x; is = union_bound x t us ts s.1.0 rest s.0 s.1.1 (term_case t f.1.0) s.1.2 f le stops }
  bound_reads _ ts rest s f le stops = absurd cc

  no_bound : (ts : List Word) → Stop ts → first (marked Tilde) ts ≡ None → maybe_bound room ts ≡ Ok (None, ts)
  no_bound ts stops e = take_other (marked Tilde) _ _ ts e ∙ rw (no_plain_type room (readers room) ts (no_type_stop ts stops)) refl

  -- ---- parts

  abbrev more : TypeParams → Reader TypeParams
  more = more_parts Comma RBracket type_params_ending (type_param room)

  abbrev all : TypeParams → Reader TypeParams
  all = parts Comma RBracket type_params_ending (type_param room)

  bound_part : (ps : TypeParams) (p : Placed) (t : TypeTree) (ts a rest : List Word) → ts ≡ ident p ∷ a → SpellsType t a rest → FitsType t bound → type_depth t ≤ suc room → Stop rest
      → type_param room ps ts ≡ Ok (record { groups = ps.groups ++ (group (ps.waiting ++ (p ∷ [])) t ∷ []); waiting = []; depth = max ps.depth (type_depth t) }, rest)
  bound_part ps p t ts a rest e s f le stops = ap (type_param room ps) e ∙ rw (expect_name_ident p a, (bound_reads t a rest s f le stops).is) refl

  name_part : (ps : TypeParams) (p : Placed) (x : Spot) (ts m : List Word) → ts ≡ ident p ∷ (mark Comma x ∷ m) → type_param room ps ts ≡ Ok (add_bound ps p None, mark Comma x ∷ m)
  name_part ps p x ts m e = ap (type_param room ps) e ∙ rw (expect_name_ident p (mark Comma x ∷ m), no_bound (mark Comma x ∷ m) (stop_at stop_comma) refl) refl

  goes : (b : Bool) (p : Placed) (ws : List Word) → GoesOn b RBracket (ident p ∷ ws)
  goes true p ws = refl
  goes false p ws = tt

  -- behind a comma
  comma_next : (ps : TypeParams) (x : Spot) (p : Placed) (ws : List Word) → more ps (mark Comma x ∷ (ident p ∷ ws)) ≡ and_then (type_param room ps (ident p ∷ ws)) more
  comma_next ps x p ws = more_next Comma RBracket type_params_ending (type_param room) (steady_type_param room) ps x (ident p ∷ ws) refl
      ∙ parts_step Comma RBracket type_params_ending (type_param room) (steady_type_param room) ps (ident p ∷ ws) (goes (type_params_ending.may ps) p ws)

  tail_stops : (gs : Groups) (ts rest : List Word) → SpellsGroupsTail Comma RBracket gs ts rest → Stop ts
  tail_stops groups_end ts rest s = stop_closes Comma RBracket ts rest stop_comma stop_bracket s
  tail_stops (group_and ns t gs) ts rest s = stop_mark Comma ts s.0 stop_comma s.3

  -- a group whose first names wait, and what follows it
  abbrev grown : TypeParams → List Placed → TypeTree → TypeParams
  grown ps ns t = record { groups = ps.groups ++ (group (ps.waiting ++ ns) t ∷ []); waiting = []; depth = max ps.depth (type_depth t) }

  group_read : (ps : TypeParams) (p : Placed) (ns : List Placed) (t : TypeTree) (ts a c b : List Word) (end : Outcome TypeParams) → ts ≡ ident p ∷ a → NamesTail ns a c → SpellsType t c b → FitsType t bound → type_depth t ≤ suc room → Stop b
      → more (grown ps (p ∷ ns) t) b ≡ end → and_then (type_param room ps ts) more ≡ end
  group_read ps p [] t ts a c b end e n s f le stops others = rw (bound_part ps p t ts a b e (subst (λ (v : List Word). SpellsType t v b) (sym n) s) f le stops) others
  group_read ps p (q ∷ ns) t ts a c b end e n s f le stops others =
      let comma : a ≡ mark Comma n.2.spot ∷ (ident q ∷ n.1) = n.2.is ∙ ap (λ (v : List Word). mark Comma n.2.spot ∷ v) n.3 in
      rw (name_part ps p n.2.spot ts (ident q ∷ n.1) (e ∙ ap (λ (v : List Word). ident p ∷ v) comma))
      (comma_next (add_bound ps p None) n.2.spot q n.1
      ∙ group_read (add_bound ps p None) q ns t (ident q ∷ n.1) n.1 c b end refl n.4 s f le stops
      (ap (λ (v : List Placed). more (record { groups = ps.groups ++ (group v t ∷ []); waiting = []; depth = max ps.depth (type_depth t) }) b) (append_assoc ps.waiting (p ∷ []) (q ∷ ns)) ∙ others))

  done : (ps : TypeParams) → ps.waiting ≡ [] → ps ≡ with_params ps groups_end
  done ps e = same_params ps.groups (ps.groups ++ []) ps.waiting [] ps.depth (max ps.depth 0) (sym (append-nil ps.groups)) e (omega arith)

  one_more : (ps : TypeParams) (ns : List Placed) (t : TypeTree) (gs : Groups) → ps.waiting ≡ [] → with_params (grown ps ns t) gs ≡ with_params ps (group_and ns t gs)
  one_more ps ns t gs e = same_params _ _ [] [] _ _
      (append_assoc ps.groups (group (ps.waiting ++ ns) t ∷ []) (group_list gs) ∙ ap (λ (v : List Placed). ps.groups ++ (group (v ++ ns) t ∷ group_list gs)) e) refl (omega arith)

  pub tail_read : (gs : Groups) (ps : TypeParams) (ts rest : List Word) → SpellsGroupsTail Comma RBracket gs ts rest → all_named gs ≡ true → FitsGroups gs bound → groups_depth gs ≤ suc room → ps.waiting ≡ [] → more ps ts ≡ Ok (with_params ps gs, rest)
  tail_read groups_end ps ts rest s named f le e =
      more_ends Comma RBracket type_params_ending (type_param room) (steady_type_param room) ps ts rest (ap is_empty e) refl s ∙ ap (λ (v : TypeParams). Ok (v, rest)) (done ps e)
  tail_read (group_and [] t gs) ps ts rest s named f le e = absurd cc
  tail_read (group_and (p ∷ ns) t gs) ps ts rest s named f le e =
      ap (more ps) (s.3.is ∙ ap (λ (v : List Word). mark Comma s.3.spot ∷ v) s.4.1) ∙ comma_next ps s.3.spot p s.4.0
      ∙ group_read ps p ns t (ident p ∷ s.4.0) s.4.0 s.1 s.2 (Ok (with_params ps (group_and (p ∷ ns) t gs), rest)) refl s.4.2 s.5 f.0 (omega (arith, le)) (tail_stops gs s.2 rest s.6)
      (tail_read gs (grown ps (p ∷ ns) t) s.2 rest s.6 named f.1 (omega (arith, le)) refl ∙ ap (λ (v : TypeParams). Ok (v, rest)) (one_more ps (p ∷ ns) t gs e))

  -- ---- lists

  abbrev pub found : Groups → TypeParams
  found gs = record { groups = group_list gs; waiting = []; depth = groups_depth gs }

  none_before : (gs : Groups) → with_params no_type_params gs ≡ found gs
  none_before gs = same_params (group_list gs) (group_list gs) [] [] (max 0 (groups_depth gs)) (groups_depth gs) refl refl (omega arith)

  pub type_params_read : (gs : Groups) (ts rest : List Word) → SpellsTypeParams false gs ts rest → all_named gs ≡ true → FitsGroups gs bound → groups_depth gs ≤ suc room → type_params room ts ≡ Ok (found gs, rest)
  unfolding type_params
  type_params_read groups_end ts rest s named f le = absurd s
  type_params_read (group_and [] t gs) ts rest s named f le = absurd cc
  type_params_read (group_and (p ∷ ns) t gs) ts rest s named f le =
      group_read no_type_params p ns t ts s.2.0 s.0 s.1 (Ok (found (group_and (p ∷ ns) t gs), rest)) s.2.1 s.2.2 s.3 f.0 (omega (arith, le)) (tail_stops gs s.1 rest s.4)
      (tail_read gs (grown no_type_params (p ∷ ns) t) s.1 rest s.4 named f.1 (omega (arith, le)) refl ∙ ap (λ (v : TypeParams). Ok (v, rest)) (one_more no_type_params (p ∷ ns) t gs refl ∙ none_before (group_and (p ∷ ns) t gs)))

  -- ---- where an array's length may stand

  -- at a comma both ways go on alike
  apart_comma : (ps : TypeParams) (x : Spot) (p : Placed) (ws : List Word) → apart room ps (mark Comma x ∷ (ident p ∷ ws)) ≡ more ps (mark Comma x ∷ (ident p ∷ ws))
  apart_comma ps x p ws = pick_same (is_length (groups kept ps.groups)) (λ v. and_then (expect Comma v) (λ _. all ps)) (more ps) (mark Comma x ∷ (ident p ∷ ws)) (more ps (mark Comma x ∷ (ident p ∷ ws)))
      (rw (expect_mark Comma x (ident p ∷ ws)) (sym (more_next Comma RBracket type_params_ending (type_param room) (steady_type_param room) ps x (ident p ∷ ws) refl))) refl

  apart_other : (ps : TypeParams) (ws : List Word) → is_length (groups kept ps.groups) ≡ false → apart room ps ws ≡ more ps ws
  apart_other ps ws e = rw e refl

  -- one parameter alone
  one_apart : (b : Bool) (p : Placed) (t : TypeTree) (m rest : List Word) → is_length (group_and (p ∷ []) t groups_end) ≡ b → cond b ((c : List Word) × Mark Comma m c × Mark RBracket c rest) (Closes Comma RBracket m rest)
      → apart room (grown no_type_params (p ∷ []) t) m ≡ Ok (grown no_type_params (p ∷ []) t, rest)
  one_apart true p t m rest e (c, k, l) =
      rw e (ap (λ (v : List Word). and_then (expect Comma v) (λ _. all (grown no_type_params (p ∷ []) t))) (k.is ∙ ap (λ (v : List Word). mark Comma k.spot ∷ v) l.is)
      ∙ rw (expect_mark Comma k.spot (mark RBracket l.spot ∷ rest)) (parts_close Comma RBracket type_params_ending (type_param room) (steady_type_param room) (grown no_type_params (p ∷ []) t) l.spot rest refl))
  one_apart false p t m rest e h = apart_other (grown no_type_params (p ∷ []) t) m e ∙ more_ends Comma RBracket type_params_ending (type_param room) (steady_type_param room) (grown no_type_params (p ∷ []) t) m rest refl refl h

  one_list : (b : Bool) (p : Placed) (t : TypeTree) (ts rest : List Word) → SpellsTypeParams b (group_and (p ∷ []) t groups_end) ts rest
      → (a m : List Word) × (ts ≡ ident p ∷ a) × SpellsType t a m × cond b ((c : List Word) × Mark Comma m c × Mark RBracket c rest) (Closes Comma RBracket m rest)
  one_list true p t ts rest (a, b, c, n, s, k, l) = (n.0, b, n.1, subst (λ (v : List Word). SpellsType t v b) (sym n.2) s, (c, k, l))
  one_list false p t ts rest (a, b, n, s, h) = (n.0, b, n.1, subst (λ (v : List Word). SpellsType t v b) (sym n.2) s, h)

  ends_stop : (b : Bool) (m rest : List Word) → cond b ((c : List Word) × Mark Comma m c × Mark RBracket c rest) (Closes Comma RBracket m rest) → Stop m
  ends_stop true m rest (c, k, l) = stop_mark Comma m c stop_comma k
  ends_stop false m rest h = stop_closes Comma RBracket m rest stop_comma stop_bracket h

  single : (p : Placed) (t : TypeTree) → grown no_type_params (p ∷ []) t ≡ found (group_and (p ∷ []) t groups_end)
  single p t = same_params _ _ [] [] (max 0 (type_depth t)) (max (type_depth t) 0) refl refl (omega arith)

  one_read : (p : Placed) (t : TypeTree) (ts rest : List Word) → SpellsTypeParams (is_length (group_and (p ∷ []) t groups_end)) (group_and (p ∷ []) t groups_end) ts rest → FitsType t bound → type_depth t ≤ suc room
      → and_then (type_param room no_type_params ts) (apart room) ≡ Ok (found (group_and (p ∷ []) t groups_end), rest)
  one_read p t ts rest s f le =
      let l = one_list (is_length (group_and (p ∷ []) t groups_end)) p t ts rest s in
      rw (bound_part no_type_params p t ts l.0 l.1 l.2 l.3 f le (ends_stop (is_length (group_and (p ∷ []) t groups_end)) l.1 rest l.4))
      (one_apart (is_length (group_and (p ∷ []) t groups_end)) p t l.1 rest refl l.4 ∙ ap (λ (v : TypeParams). Ok (v, rest)) (single p t))

  -- several: the first is followed by a comma
  names_apart : (p q : Placed) (ns : List Placed) (t : TypeTree) (gs : Groups) (ts rest : List Word) → SpellsGroups Comma RBracket (group_and (p ∷ (q ∷ ns)) t gs) ts rest → and_then (type_param room no_type_params ts) (apart room) ≡ and_then (type_param room no_type_params ts) more
  names_apart p q ns t gs ts rest s =
      let n = s.2.2 in
      let e : ts ≡ ident p ∷ (mark Comma n.2.spot ∷ n.0) = s.2.1 ∙ ap (λ (v : List Word). ident p ∷ v) n.2.is in
      rw (name_part no_type_params p n.2.spot ts n.0 e) refl

  groups_apart : (p : Placed) (t : TypeTree) (ns : List Placed) (u : TypeTree) (gs : Groups) (ts rest : List Word) → SpellsGroups Comma RBracket (group_and (p ∷ []) t (group_and ns u gs)) ts rest → all_named (group_and ns u gs) ≡ true → FitsType t bound → type_depth t ≤ suc room
      → and_then (type_param room no_type_params ts) (apart room) ≡ and_then (type_param room no_type_params ts) more
  groups_apart p t [] u gs ts rest s named f le = absurd cc
  groups_apart p t (q ∷ ns) u gs ts rest s named f le =
      let k = s.4 in
      let e : s.1 ≡ mark Comma k.3.spot ∷ (ident q ∷ k.4.0) = k.3.is ∙ ap (λ (v : List Word). mark Comma k.3.spot ∷ v) k.4.1 in
      rw (bound_part no_type_params p t ts s.2.0 s.1 s.2.1 (subst (λ (v : List Word). SpellsType t v s.1) (sym s.2.2) s.3) f le (stop_mark Comma s.1 k.0 stop_comma k.3))
      (ap (apart room (grown no_type_params (p ∷ []) t)) e ∙ apart_comma (grown no_type_params (p ∷ []) t) k.3.spot q k.4.0 ∙ ap (more (grown no_type_params (p ∷ []) t)) (sym e))

  pub type_params_apart_read : (gs : Groups) (ts rest : List Word) → SpellsTypeParams (is_length gs) gs ts rest → all_named gs ≡ true → FitsGroups gs bound → groups_depth gs ≤ suc room → type_params_apart room ts ≡ Ok (found gs, rest)
  unfolding type_params_apart type_params
  type_params_apart_read groups_end ts rest s named f le = absurd s
  type_params_apart_read (group_and [] t gs) ts rest s named f le = absurd cc
  type_params_apart_read (group_and (p ∷ []) t groups_end) ts rest s named f le = one_read p t ts rest s f.0 (omega (arith, le))
  type_params_apart_read (group_and (p ∷ []) t (group_and ns u gs)) ts rest s named f le =
      groups_apart p t ns u gs ts rest s named f.0 (omega (arith, le)) ∙ type_params_read (group_and (p ∷ []) t (group_and ns u gs)) ts rest s named f le
  type_params_apart_read (group_and (p ∷ (q ∷ ns)) t gs) ts rest s named f le =
      names_apart p q ns t gs ts rest s ∙ type_params_read (group_and (p ∷ (q ∷ ns)) t gs) ts rest s named f le
