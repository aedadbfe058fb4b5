-- Parameters without names are read.
use Rattle.std.proofs.Common.{◌≡◌, ℕ, suc, ◌≤◌, max, Bool, true, false, List, [], ◌∷◌, ◌++◌, Option, Some, None, Ok, refl, sym, ap, subst, ◌∙◌, append_assoc, arith, inl, inr, ◌⊎◌}
use Rattle.std.proofs.lemmas.List.{append-nil, map-append}
use Rattle.ui_base.specs.declared.value.Spot.{Spot}
use Rattle.ui_scan.specs.declared.kind.TokenKind.TheVariants.{LBracket, RBracket, Comma, Period}
use Rattle.ui_tree.specs.declared.part.Placed.{Placed}
use Rattle.ui_tree.specs.Tree.{TypeTree, named, Args, no_args, args, Types, types_end, type_and, Tree, type_arg}
use Rattle.ui_grammar.specs.Word.{Word, mark, ident, Mark}
use Rattle.ui_grammar.specs.Both.{is_expression}
use Rattle.ui_grammar.specs.Spells.{SpellsType, SpellsArgs, SpellsTypesTail}
use Rattle.ui_grammar.specs.Fits.{plain_type, depth, type_depth, types_depth, FitsType, FitsTypes, FitsArgs}
use Rattle.ui_parse.specs.Reader.{Outcome, marked, parts, more_parts}
use Rattle.ui_parse.proofs.Outcomes.{take_mark, take_other, take_ident, expect_name_ident}
use Rattle.ui_parse.proofs.TurnLaws.{more_next}
use Rattle.ui_syntax.specs.declared.site.Site.TheVariants as site
use Rattle.ui_syntax.specs.declared.site.Style.TheVariants.{Open}
use Rattle.ui_syntax.specs.Cover.{Read, only_type, as_type}
use Rattle.ui_syntax.specs.Types.{Nested, Listed, add, only, any_end, one_more, group, bare_depth, of_type, maybe_args, Params, add_name, add_type, all_params, is_named, behind_cover, behind_bracket, bracketed, open_name, qualified, bare_param, param_by, a_lower_type}
use Rattle.ui_syntax.proofs.Quiet.{Stop, quiet_type_stop, quiet_stop, quiet_alone_stop, no_type_stop}
use Rattle.ui_syntax.proofs.Covers.{tree_of_type}
use Rattle.ui_syntax.proofs.Places.{type_positive}
use Rattle.ui_syntax.proofs.CompleteTypesBase.{not_type_first, Below, types_of_list, a_type_reads, a_lower_type_reads, cover_reads, cover_alone_reads}
use Rattle.ui_syntax.proofs.CompleteTypesLists.{room_is, with_types, args_tail_read, args_tail_stops, member_read, name_within}
use Rattle.ui_syntax.proofs.SteadyTypes.{steady_one_more, steady_a_lower_type}
use Rattle.ui_syntax.proofs.CompleteTypesNamed.{open_bracket, open_none, cover_closes}

-- one type more was read
pub record BareRead (ps : Params) (t : TypeTree) (o : Outcome Params) (rest : List Word) : Type 0 where
  pub next : Params
  pub is : o ≡ Ok (next, rest)
  pub not_named : is_named next.style ≡ false
  pub all : all_params next ≡ add (all_params ps) (group [] t) (type_depth t)

add_type_all : (ps : Params) (t : TypeTree) (s : Spot) (k : ℕ) → k ≡ type_depth t → all_params (add_type ps (of_type t s k)) ≡ add (all_params ps) (group [] t) (type_depth t)
add_type_all ps t s k e =
    let d : max (max (max ps.depth (bare_depth ps.waiting)) k) 0 ≡ max (max ps.depth (bare_depth ps.waiting)) (type_depth t) = omega (arith, e) in
    rw (append-nil, d) refl

bare_read : (ps : Params) (t : TypeTree) (o : Outcome Params) (s : Spot) (k : ℕ) (rest : List Word) → o ≡ Ok (add_type ps (of_type t s k), rest) → k ≡ type_depth t → BareRead ps t o rest
bare_read ps t o s k rest e depth_is = record { next = add_type ps (of_type t s k); is = e; not_named = refl; all = add_type_all ps t s k depth_is }

bare_deep : (ns : List Placed) (p : Placed) (k : ℕ) → max k (bare_depth (ns ++ (p ∷ []))) ≡ max (max k (bare_depth ns)) 1
bare_deep [] p k = omega arith
bare_deep (n ∷ ns) p k = omega arith

add_name_all : (ps : Params) (p : Placed) → all_params (add_name ps p) ≡ add (all_params ps) (group [] (named p None no_args)) 1
add_name_all ps p = rw (map-append, bare_deep ps.waiting p ps.depth, append_assoc) refl

pub bare_at : (ps : Params) (t : TypeTree) (o o' : Outcome Params) (rest : List Word) → o ≡ o' → BareRead ps t o' rest → BareRead ps t o rest
bare_at ps t o o' rest e x = record { next = x.next; is = e ∙ x.is; not_named = x.not_named; all = x.all }

-- the end of type arguments, or a comma
comma_or_end : (us : Types) (ts rest : List Word) → SpellsTypesTail Comma RBracket us ts rest → ((us ≡ types_end) × Mark RBracket ts rest) ⊎ ((m : List Word) × Mark Comma ts m)
comma_or_end types_end ts rest (inl m) = inl (refl, m)
comma_or_end types_end ts rest (inr c) = inr (c.0, c.1)
comma_or_end (type_and t us) ts rest s = inr (s.0, s.2)

module _ (room low : ℕ) (inner : Nested) (has : Below room low inner) where
  pub bare_param_read : (ps : Params) (t : TypeTree) (ts rest : List Word) → SpellsType t ts rest → FitsType t plain_type → type_depth t ≤ room → Stop rest → BareRead ps t (bare_param room inner ps ts) rest
  bare_param_read ps t ts rest s fits le stops =
      let type_is = a_type_reads room low inner has t ts rest s fits le (quiet_type_stop t rest stops) in
      bare_read ps t (bare_param room inner ps ts) type_is.spot (type_depth t) rest (rw type_is.is refl) refl

  -- n [ A, and so on
  with_args_read : (us : Types) (l : Listed TypeTree) (ts rest : List Word) → SpellsTypesTail Comma RBracket us ts rest → FitsTypes us plain_type → types_depth us ≤ low → more_parts Comma RBracket any_end (one_more (a_lower_type room inner)) l ts ≡ Ok (with_types l us, rest)
  with_args_read = args_tail_read low (a_lower_type room inner) (steady_a_lower_type room inner has.steady) (a_lower_type_reads room low inner has)

  -- behind a comma
  comma_read : (ps : Params) (p : Placed) (x : Spot) (r : Read Tree) (u : TypeTree) (us : Types) (ts m rest : List Word) → as_type r.tree ≡ Some u → r.depth ≡ type_depth u → Mark Comma ts m → SpellsTypesTail Comma RBracket us ts rest → FitsTypes us plain_type → types_depth us ≤ low
      → BareRead ps (named p None (args (type_and u us))) (behind_cover room inner ps p x r (as_type r.tree) ts) rest
  comma_read ps p x r u us ts m rest typing depth_is comma s fits le =
      let l : Listed TypeTree = only u r.depth in
      let tail = with_args_read us l ts rest s fits le in
      let next = more_next Comma RBracket any_end (one_more (a_lower_type room inner)) (steady_one_more (a_lower_type room inner) (steady_a_lower_type room inner has.steady)) l comma.spot m refl in
      let others : parts Comma RBracket any_end (one_more (a_lower_type room inner)) l m ≡ Ok (with_types l us, rest) = sym next ∙ ap (more_parts Comma RBracket any_end (one_more (a_lower_type room inner)) l) (sym comma.is) ∙ tail in
      bare_read ps (named p None (args (type_and u us))) _ p.spot (suc (max 1 (max r.depth (types_depth us)))) rest
      (ap (behind_cover room inner ps p x r (as_type r.tree)) comma.is ∙ rw (typing, take_mark) (rw others (rw types_of_list refl))) (omega (arith, depth_is))

  -- the bracket behind the only argument
  alone_read : (ps : Params) (p : Placed) (x : Spot) (r : Read Tree) (u : TypeTree) (rest : List Word) → as_type r.tree ≡ Some u → r.depth ≡ type_depth u → ((only_type r.tree ≡ Some u) ⊎ (only_type r.tree ≡ None)) → Stop rest
      → BareRead ps (named p None (args (type_and u types_end))) (behind_bracket room inner ps p x r (only_type r.tree) rest) rest
  alone_read ps p x r u rest typing depth_is (inl only_is) stops = bare_read ps _ _ p.spot (suc (max 1 r.depth)) rest (rw only_is refl) (omega (arith, depth_is))
  alone_read ps p x r u rest typing depth_is (inr only_is) stops = bare_read ps _ _ p.spot (suc (max 1 r.depth)) rest (rw (only_is, has.lower.no_type rest (no_type_stop rest stops)) (rw typing refl)) (omega (arith, depth_is))

  behind_cover_read : (ps : Params) (p : Placed) (x : Spot) (r : Read Tree) (u : TypeTree) (us : Types) (ts rest : List Word) → as_type r.tree ≡ Some u → r.depth ≡ type_depth u → ((only_type r.tree ≡ Some u) ⊎ (only_type r.tree ≡ None)) → SpellsTypesTail Comma RBracket us ts rest → FitsTypes us plain_type → types_depth us ≤ low → Stop rest
      → BareRead ps (named p None (args (type_and u us))) (behind_cover room inner ps p x r (as_type r.tree) ts) rest
  behind_cover_read ps p x r u us ts rest typing depth_is only_is s fits le stops = by_end (comma_or_end us ts rest s)
    where
      by_end : ((us ≡ types_end) × Mark RBracket ts rest) ⊎ ((m : List Word) × Mark Comma ts m) → BareRead ps (named p None (args (type_and u us))) (behind_cover room inner ps p x r (as_type r.tree) ts) rest
      by_end (inr c) = comma_read ps p x r u us ts c.0 rest typing depth_is c.1 s fits le
      by_end (inl e) =
          subst (λ (vs : Types). BareRead ps (named p None (args (type_and u vs))) (behind_cover room inner ps p x r (as_type r.tree) ts) rest) (sym e.0)
          (bare_at ps _ _ _ rest (ap (behind_cover room inner ps p x r (as_type r.tree)) e.1.is ∙ cover_closes room low inner has ps p x e.1.spot r (as_type r.tree) rest) (alone_read ps p x r u rest typing depth_is only_is stops))

  first_arg_read : (both : Bool) (ps : Params) (p : Placed) (x : Spot) (u : TypeTree) (us : Types) (ts m rest : List Word) → is_expression u ≡ both → SpellsType u ts m → SpellsTypesTail Comma RBracket us m rest → FitsType u plain_type → FitsTypes us plain_type → type_depth u ≤ low → types_depth us ≤ low → Stop rest
      → BareRead ps (named p None (args (type_and u us))) (bracketed room inner ps p x ts) rest
  unfolding bracketed
  first_arg_read true ps p x u us ts m rest both s tail fits all_fit le all_le stops =
      let behind_is = args_tail_stops low (a_lower_type room inner) (steady_a_lower_type room inner has.steady) (a_lower_type_reads room low inner has) us m rest tail in
      let tree = tree_of_type u ts m both s fits in
      let length_is = cover_reads room low inner has tree.0 ts m tree.1 tree.2 (omega (arith, tree.4)) (quiet_stop site.Argument 1 m behind_is) in
      let r : Read Tree = record { tree = tree.0; spot = length_is.spot; depth = depth tree.0 } in
      bare_at ps _ _ (behind_cover room inner ps p x r (as_type r.tree) m) rest (take_other (marked RBracket) _ _ ts (not_type_first RBracket (λ _. refl) u ts m s fits) ∙ rw length_is.is refl)
      (behind_cover_read ps p x r u us m rest tree.3 tree.4 (inr tree.5) tail all_fit all_le stops)
  first_arg_read false ps p x u us ts m rest both s tail fits all_fit le all_le stops =
      let behind_is = args_tail_stops low (a_lower_type room inner) (steady_a_lower_type room inner has.steady) (a_lower_type_reads room low inner has) us m rest tail in
      let alone_is = cover_alone_reads room low inner has u ts m s both fits le (quiet_alone_stop u m behind_is) in
      let r : Read Tree = record { tree = type_arg u; spot = alone_is.spot; depth = type_depth u } in
      bare_at ps _ _ (behind_cover room inner ps p x r (as_type r.tree) m) rest (take_other (marked RBracket) _ _ ts (not_type_first RBracket (λ _. refl) u ts m s fits) ∙ rw alone_is.is refl)
      (behind_cover_read ps p x r u us m rest refl refl (inl refl) tail all_fit all_le stops)

  -- n.m, with arguments or without
  member_lower_read : (p : Placed) (m : Option Placed) (vs : Args) (ts rest : List Word) → SpellsArgs vs ts rest → FitsArgs vs → type_depth (named p m vs) ≤ room → 1 ≤ room → Stop rest
      → maybe_args room (a_lower_type room inner) p m ts ≡ Ok (of_type (named p m vs) p.spot (type_depth (named p m vs)), rest)
  member_lower_read p m vs ts rest s fits le some_room stops =
      let e = has.below some_room in
      subst (λ (k : ℕ). maybe_args k (a_lower_type room inner) p m ts ≡ Ok (of_type (named p m vs) p.spot (type_depth (named p m vs)), rest)) (sym e)
      (member_read low (a_lower_type room inner) (steady_a_lower_type room inner has.steady) (a_lower_type_reads room low inner has) p m vs ts rest s fits (omega (arith, e)) (quiet_type_stop (named p m vs) rest stops).no_bracket)

  qualified_is : (ps : Params) (p : Placed) (x : Spot) (ts : List Word) → 2 ≤ room → open_name room inner ps p (mark Period x ∷ ts) ≡ qualified room inner ps p ts
  unfolding open_name
  qualified_is ps p x ts le = rw (room_is 2 room le) (take_mark Period _ _ x ts)

  pub open_bare : (ps : Params) (p : Placed) (m : Option Placed) (vs : Args) (ts rest : List Word) → SpellsType (named p m vs) ts rest → FitsArgs vs → type_depth (named p m vs) ≤ room → Stop rest → is_named ps.style ≡ false
      → BareRead ps (named p m vs) (param_by room inner Open ps ts) rest
  open_bare ps p None no_args ts rest s fits le stops style =
      record { next = add_name ps p; is = ap (param_by room inner Open ps) (s.2 ∙ ap (λ (v : List Word). ident p ∷ v) (s.3 ∙ s.4)) ∙ take_ident _ _ p rest ∙ open_none room low inner has ps p rest stops; not_named = style; all = add_name_all ps p }
  open_bare ps p None (args types_end) ts rest s fits le stops style = absurd s.4.2
  open_bare ps p None (args (type_and u us)) ts rest s fits le stops style =
      let k = s.4 in
      let e = has.below (omega arith) in
      bare_at ps _ _ (bracketed room inner ps p k.1.spot k.0) rest
      (ap (param_by room inner Open ps) (s.2 ∙ ap (λ (v : List Word). ident p ∷ v) (s.3 ∙ k.1.is)) ∙ take_ident _ _ p (mark LBracket k.1.spot ∷ k.0) ∙ open_bracket room low inner has ps p k.1.spot k.0 (omega (arith, type_positive u fits.0)))
      (first_arg_read (is_expression u) ps p k.1.spot u us k.0 k.2.0 rest refl k.2.1 k.2.2 fits.0 fits.1 (omega (arith, e)) (omega (arith, e)) stops)
  open_bare ps p (Some n) vs ts rest s fits le stops style =
      let two = name_within p (Some n) vs in
      let type_is = member_lower_read p (Some n) vs s.1 rest s.4 fits le (omega (arith, two)) stops in
      bare_read ps _ _ p.spot (type_depth (named p (Some n) vs)) rest
      (ap (param_by room inner Open ps) (s.2 ∙ ap (λ (v : List Word). ident p ∷ v) (s.3.1.is ∙ ap (λ (v : List Word). mark Period s.3.1.spot ∷ v) s.3.2)) ∙ take_ident _ _ p (mark Period s.3.1.spot ∷ (ident n ∷ s.1)) ∙ qualified_is ps p s.3.1.spot (ident n ∷ s.1) (omega (arith, two)) ∙ rw (expect_name_ident, type_is) refl) refl
