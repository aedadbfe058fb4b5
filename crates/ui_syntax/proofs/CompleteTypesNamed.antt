-- Parameters with names are read.
use Rattle.std.proofs.Common.{◌≡◌, ℕ, suc, ◌≤◌, max, Bool, true, false, List, [], ◌∷◌, ◌++◌, Option, Some, None, Ok, refl, ap, ◌∙◌, append_assoc, arith}
use Rattle.std.specs.Prelude.{nat_le}
use Rattle.std.proofs.lemmas.List.{append-nil}
use Rattle.ui_base.specs.declared.value.Spot.{Spot}
use Rattle.ui_scan.specs.declared.kind.TokenKind.TheVariants.{LBracket, RBracket, RParen, Comma, Period}
use Rattle.ui_tree.specs.declared.part.Placed.{Placed}
use Rattle.ui_tree.specs.declared.part.Group.{Group}
use Rattle.ui_tree.specs.Tree.{TypeTree, named, parenthesized, pointer, slice, array, counted, mapping, func, listed, struct, interface, method, union, tilde, Groups, groups_end, group_and, Tree}
use Rattle.ui_grammar.specs.Word.{Word, mark, ident, Mark, NamesTail}
use Rattle.ui_grammar.specs.Word as word
use Rattle.ui_grammar.specs.Spells.{Spells, SpellsType, SpellsGroups, SpellsGroupsTail}
use Rattle.ui_grammar.specs.Fits.{plain, plain_type, all_named, depth, type_depth, groups_depth, Fits, FitsType, FitsGroups}
use Rattle.ui_parse.specs.Reader.{Outcome, Reader, and_then, first, marked, take_by, parts, more_parts}
use Rattle.ui_parse.proofs.Outcomes.{take_mark, take_other, take_ident, expect_mark}
use Rattle.ui_parse.proofs.TurnLaws.{GoesOn, parts_step, more_next, more_ends}
use Rattle.ui_syntax.specs.declared.site.Site.TheVariants as site
use Rattle.ui_syntax.specs.declared.site.Style.{Style}
use Rattle.ui_syntax.specs.declared.site.Style.TheVariants.{Open, Named}
use Rattle.ui_syntax.specs.Cover.{Read, only_type, as_type}
use Rattle.ui_syntax.specs.Types.{Nested, group, Params, no_params, add_name, params_ending, behind_bracket, close_bracket, behind_cover, bracketed, maybe_named, open_name, param_by, param}
use Rattle.ui_syntax.proofs.Quiet.{Stop, stop_paren, stop_comma, stop_bracket, stop_mark, stop_closes, quiet_type_stop, quiet_stop, no_type_stop}
use Rattle.ui_syntax.proofs.Places.{type_positive, no_type}
use Rattle.ui_syntax.proofs.CompleteTypesBase.{not_type_first, not_length_first, Below, group_list, inner_type, lower_type, a_lower_type_reads, cover_reads}
use Rattle.ui_syntax.proofs.CompleteTypesLists.{pick_same, room_is}
use Rattle.ui_syntax.proofs.SteadyTypes.{steady_param}

-- the parameters, and these names with their type
abbrev pub typed : Params → List Placed → TypeTree → Params
typed ps ns t = record { groups = ps.groups ++ (group (ps.waiting ++ ns) t ∷ []); waiting = []; style = Named; depth = max ps.depth (type_depth t) }

abbrev pub all_typed : List (Group TypeTree) → ℕ → Params
all_typed gs k = record { groups = gs; waiting = []; style = Named; depth = k }

-- where a name may be one of a parameter
pub data IsNaming : Style → Type 0 where
  naming_open : IsNaming Open
  naming_named : IsNaming Named

pub goes_on : (b : Bool) (ws : List Word) → first (marked RParen) ws ≡ None → GoesOn b RParen ws
goes_on true ws e = e
goes_on false ws e = tt

module _ (room low : ℕ) (inner : Nested) (has : Below room low inner) where
  maybe_named_read : (ps : Params) (p : Placed) (t : TypeTree) (ts rest : List Word) → SpellsType t ts rest → FitsType t plain_type → type_depth t ≤ room → Stop rest → maybe_named room inner ps p ts ≡ Ok (typed ps (p ∷ []) t, rest)
  maybe_named_read ps p t ts rest s fits le stops = rw (inner_type room low inner has t ts rest s fits le (quiet_type_stop t rest stops)).is refl

  pub maybe_named_none : (ps : Params) (p : Placed) (ts : List Word) → Stop ts → maybe_named room inner ps p ts ≡ Ok (add_name ps p, ts)
  maybe_named_none ps p ts stops = rw (has.own.no_type ts (no_type_stop ts stops)) refl

  -- ---- n [

  slice_read : (ps : Params) (p : Placed) (x : Spot) (t : TypeTree) (ts b rest : List Word) → Mark RBracket ts b → SpellsType t b rest → FitsType t plain_type → suc (type_depth t) ≤ room → Stop rest
      → bracketed room inner ps p x ts ≡ Ok (typed ps (p ∷ []) (slice x t), rest)
  unfolding bracketed
  slice_read ps p x t ts b rest bracket s fits le stops =
      let e = has.below (omega arith) in
      let type_is = a_lower_type_reads room low inner has t b rest s fits (omega (arith, e)) (quiet_type_stop t rest stops) in
      ap (bracketed room inner ps p x) bracket.is ∙ rw take_mark (rw type_is.is refl)

  pub cover_closes : (ps : Params) (p : Placed) (x y : Spot) (r : Read Tree) (t : Option TypeTree) (ts : List Word) → behind_cover room inner ps p x r t (mark RBracket y ∷ ts) ≡ behind_bracket room inner ps p x r (only_type r.tree) ts
  cover_closes ps p x y r None ts = rw expect_mark refl
  cover_closes ps p x y r (Some t) ts = take_other (marked Comma) _ (close_bracket room inner ps p x r) (mark RBracket y ∷ ts) refl ∙ rw expect_mark refl

  array_read : (ps : Params) (p : Placed) (x : Spot) (e : Tree) (t : TypeTree) (ts b c rest : List Word) → Spells e ts b → Mark RBracket b c → SpellsType t c rest → Fits e plain → FitsType t plain_type → suc (max (depth e) (type_depth t)) ≤ room → Stop rest
      → bracketed room inner ps p x ts ≡ Ok (typed ps (p ∷ []) (array x e t), rest)
  unfolding bracketed
  array_read ps p x e t ts b c rest length bracket s fits_length fits le stops =
      let here = has.below (omega arith) in
      let length_is = cover_reads room low inner has e ts b length fits_length (omega (arith, here)) (quiet_stop site.Argument 1 b (stop_mark RBracket b c stop_bracket bracket)) in
      let type_is = lower_type room low inner has t c rest s fits (omega (arith, here)) (quiet_type_stop t rest stops) in
      let r : Read Tree = record { tree = e; spot = length_is.spot; depth = depth e } in
      take_other (marked RBracket) _ _ ts (not_length_first RBracket (λ _. refl) e ts b length fits_length)
      ∙ rw length_is.is (ap (behind_cover room inner ps p x r (as_type e)) bracket.is ∙ cover_closes ps p x bracket.spot r (as_type e) c ∙ rw (no_type e plain fits_length) (rw type_is.is refl))

  -- ---- a first name

  open_plain : (ps : Params) (p : Placed) (ts : List Word) → first (marked Period) ts ≡ None → first (marked LBracket) ts ≡ None → open_name room inner ps p ts ≡ maybe_named room inner ps p ts
  unfolding open_name
  open_plain ps p ts no_dot no_bracket =
      pick_same (nat_le 2 room) (take_by (marked Period) _ (take_by (marked LBracket) _ (maybe_named room inner ps p))) (maybe_named room inner ps p) ts (maybe_named room inner ps p ts)
      (take_other (marked Period) _ _ ts no_dot ∙ take_other (marked LBracket) _ _ ts no_bracket) refl

  pub open_bracket : (ps : Params) (p : Placed) (x : Spot) (ts : List Word) → 2 ≤ room → open_name room inner ps p (mark LBracket x ∷ ts) ≡ bracketed room inner ps p x ts
  unfolding open_name
  open_bracket ps p x ts le = rw (room_is 2 room le) (take_other (marked Period) _ _ (mark LBracket x ∷ ts) refl ∙ take_mark LBracket _ _ x ts)

  pub open_none : (ps : Params) (p : Placed) (ts : List Word) → Stop ts → open_name room inner ps p ts ≡ Ok (add_name ps p, ts)
  open_none ps p ts stops =
      let quiet = quiet_stop site.Plain 1 ts stops in
      open_plain ps p ts quiet.no_dot quiet.no_bracket ∙ maybe_named_none ps p ts stops

  open_typed : (ps : Params) (p : Placed) (t : TypeTree) (ts rest : List Word) → SpellsType t ts rest → FitsType t plain_type → type_depth t ≤ room → Stop rest → first (marked LBracket) ts ≡ None → open_name room inner ps p ts ≡ Ok (typed ps (p ∷ []) t, rest)
  open_typed ps p t ts rest s fits le stops no_bracket = open_plain ps p ts (not_type_first Period (λ _. refl) t ts rest s fits) no_bracket ∙ maybe_named_read ps p t ts rest s fits le stops

  open_read : (ps : Params) (p : Placed) (t : TypeTree) (ts rest : List Word) → SpellsType t ts rest → FitsType t plain_type → type_depth t ≤ room → Stop rest → open_name room inner ps p ts ≡ Ok (typed ps (p ∷ []) t, rest)
  open_read ps p (slice x t) ts rest s fits le stops =
      ap (open_name room inner ps p) s.2 ∙ open_bracket ps p x s.0 (omega (arith, type_positive t fits.1)) ∙ slice_read ps p x t s.0 s.1 rest s.3 s.4 fits.1 le stops
  open_read ps p (array x e t) ts rest s fits le stops =
      ap (open_name room inner ps p) s.3 ∙ open_bracket ps p x s.0 (omega (arith, type_positive t fits.2)) ∙ array_read ps p x e t s.0 s.1 s.2 rest s.4 s.5 s.6 fits.1 fits.2 le stops
  open_read ps p (named n m vs) ts rest s fits le stops = open_typed ps p (named n m vs) ts rest s fits le stops (ap (first (marked LBracket)) s.2)
  open_read ps p (parenthesized x t) ts rest s fits le stops = open_typed ps p (parenthesized x t) ts rest s fits le stops (ap (first (marked LBracket)) s.2)
  open_read ps p (pointer x t) ts rest s fits le stops = open_typed ps p (pointer x t) ts rest s fits le stops (ap (first (marked LBracket)) s.1)
  open_read ps p (mapping x k t) ts rest s fits le stops = open_typed ps p (mapping x k t) ts rest s fits le stops (ap (first (marked LBracket)) s.4)
  open_read ps p (func x gs r) ts rest s fits le stops = open_typed ps p (func x gs r) ts rest s fits le stops (ap (first (marked LBracket)) s.3)
  open_read ps p (struct x gs) ts rest s fits le stops = open_typed ps p (struct x gs) ts rest s fits le stops (ap (first (marked LBracket)) s.2)
  open_read ps p (interface x us) ts rest s fits le stops = open_typed ps p (interface x us) ts rest s fits le stops (ap (first (marked LBracket)) s.2)
  open_read ps p (counted x t) ts rest s fits le stops = let e = fits.0 in absurd cc
  open_read ps p (listed x gs) ts rest s fits le stops = let e = fits.0 in absurd cc
  open_read ps p (method n gs r) ts rest s fits le stops = let e = fits.0 in absurd cc
  open_read ps p (union x us) ts rest s fits le stops = let e = fits.0 in absurd cc
  open_read ps p (tilde x t) ts rest s fits le stops = let e = fits.0 in absurd cc

  -- ---- one parameter

  by_type : (style : Style) → IsNaming style → (ps : Params) (p : Placed) (t : TypeTree) (ts rest : List Word) → SpellsType t ts rest → FitsType t plain_type → type_depth t ≤ room → Stop rest
      → param_by room inner style ps (ident p ∷ ts) ≡ Ok (typed ps (p ∷ []) t, rest)
  by_type _ naming_open ps p t ts rest s fits le stops = take_ident _ _ p ts ∙ open_read ps p t ts rest s fits le stops
  by_type _ naming_named ps p t ts rest s fits le stops = take_ident _ _ p ts ∙ maybe_named_read ps p t ts rest s fits le stops

  by_name : (style : Style) → IsNaming style → (ps : Params) (p : Placed) (ts : List Word) → Stop ts → param_by room inner style ps (ident p ∷ ts) ≡ Ok (add_name ps p, ts)
  by_name _ naming_open ps p ts stops = take_ident _ _ p ts ∙ open_none ps p ts stops
  by_name _ naming_named ps p ts stops = take_ident _ _ p ts ∙ maybe_named_none ps p ts stops

  pub param_is : (ps : Params) (ts : List Word) → 1 ≤ room → param room inner ps ts ≡ param_by room inner ps.style ps ts
  unfolding param
  param_is ps ts le = rw (room_is 1 room le) refl

  abbrev pub all_parts : Params → Reader Params
  all_parts = parts Comma RParen params_ending (param room inner)

  abbrev pub further_parts : Params → Reader Params
  further_parts = more_parts Comma RParen params_ending (param room inner)

  -- a parameter, and what follows it
  pub turn : (ps next : Params) (ts rest : List Word) → first (marked RParen) ts ≡ None → 1 ≤ room → param_by room inner ps.style ps ts ≡ Ok (next, rest) → all_parts ps ts ≡ further_parts next rest
  turn ps next ts rest no_end le e =
      parts_step Comma RParen params_ending (param room inner) (steady_param room inner has.steady) ps ts (goes_on (params_ending.may ps) ts no_end)
      ∙ ap (λ (o : Outcome Params). and_then o further_parts) (param_is ps ts le ∙ e)

  pub comma_turn : (ps : Params) (x : Spot) (ts : List Word) → further_parts ps (mark Comma x ∷ ts) ≡ all_parts ps ts
  comma_turn ps x ts = more_next Comma RParen params_ending (param room inner) (steady_param room inner has.steady) ps x ts refl

  names_read : (qs : List Placed) (p : Placed) (ps : Params) (t : TypeTree) (ts a b rest : List Word) → IsNaming ps.style → word.Named p ts a → NamesTail qs a b → SpellsType t b rest → FitsType t plain_type → type_depth t ≤ room → Stop rest
      → all_parts ps ts ≡ further_parts (typed ps (p ∷ qs) t) rest
  names_read [] p ps t ts a b rest naming first_is names s fits le stops =
      turn ps (typed ps (p ∷ []) t) ts rest (ap (first (marked RParen)) first_is) (omega (arith, type_positive t fits))
      (ap (param_by room inner ps.style ps) (first_is ∙ ap (λ (v : List Word). ident p ∷ v) names) ∙ by_type ps.style naming ps p t b rest s fits le stops)
  names_read (q ∷ qs) p ps t ts a b rest naming first_is names s fits le stops =
      turn ps (add_name ps p) ts a (ap (first (marked RParen)) first_is) (omega (arith, type_positive t fits))
      (ap (param_by room inner ps.style ps) first_is ∙ by_name ps.style naming ps p a (stop_mark Comma a names.0 stop_comma names.2))
      ∙ ap (further_parts (add_name ps p)) names.2.is
      ∙ comma_turn (add_name ps p) names.2.spot names.0
      ∙ names_read qs q (add_name ps p) t names.0 names.1 b rest naming names.3 names.4 s fits le stops
      ∙ ap (λ (v : List Placed). further_parts (record { groups = ps.groups ++ (group v t ∷ []); waiting = []; style = Named; depth = max ps.depth (type_depth t) }) rest) (append_assoc ps.waiting (p ∷ []) (q ∷ qs))

  -- ---- all of them

  pub params_stop : (gs : Groups) (ts rest : List Word) → SpellsGroupsTail Comma RParen gs ts rest → Stop ts
  params_stop groups_end ts rest s = stop_closes Comma RParen ts rest stop_comma stop_paren s
  params_stop (group_and ns t gs) ts rest s = stop_mark Comma ts s.0 stop_comma s.3

  named_tail_read : (gs : Groups) (items : List (Group TypeTree)) (k : ℕ) (ts rest : List Word) → SpellsGroupsTail Comma RParen gs ts rest → all_named gs ≡ true → FitsGroups gs plain_type → groups_depth gs ≤ room
      → further_parts (all_typed items k) ts ≡ Ok (all_typed (items ++ group_list gs) (max k (groups_depth gs)), rest)
  named_tail_read groups_end items k ts rest s names fits le =
      let e : max k 0 ≡ k = omega arith in
      more_ends Comma RParen params_ending (param room inner) (steady_param room inner has.steady) (all_typed items k) ts rest refl refl s ∙ rw (append-nil, e) refl
  named_tail_read (group_and [] t gs) items k ts rest s names fits le = absurd cc
  named_tail_read (group_and (p ∷ ps) t gs) items k ts rest s names fits le =
      let e : max (max k (type_depth t)) (groups_depth gs) ≡ max k (max (type_depth t) (groups_depth gs)) = omega arith in
      ap (further_parts (all_typed items k)) s.3.is
      ∙ comma_turn (all_typed items k) s.3.spot s.0
      ∙ names_read ps p (all_typed items k) t s.0 s.4.0 s.1 s.2 naming_named s.4.1 s.4.2 s.5 fits.0 (omega arith) (params_stop gs s.2 rest s.6)
      ∙ named_tail_read gs (items ++ (group (p ∷ ps) t ∷ [])) (max k (type_depth t)) s.2 rest s.6 names fits.1 (omega arith)
      ∙ rw (append_assoc, e) refl

  pub named_params_read : (p : Placed) (ps : List Placed) (t : TypeTree) (gs : Groups) (ts rest : List Word) → SpellsGroups Comma RParen (group_and (p ∷ ps) t gs) ts rest → all_named gs ≡ true → FitsType t plain_type → FitsGroups gs plain_type → type_depth t ≤ room → groups_depth gs ≤ room
      → all_parts no_params ts ≡ Ok (all_typed (group (p ∷ ps) t ∷ group_list gs) (max (type_depth t) (groups_depth gs)), rest)
  named_params_read p ps t gs ts rest s names fits all_fit le all_le =
      let e : max (max 0 (type_depth t)) (groups_depth gs) ≡ max (type_depth t) (groups_depth gs) = omega arith in
      names_read ps p no_params t ts s.2.0 s.0 s.1 naming_open s.2.1 s.2.2 s.3 fits le (params_stop gs s.1 rest s.4)
      ∙ named_tail_read gs (group (p ∷ ps) t ∷ []) (max 0 (type_depth t)) s.1 rest s.4 names all_fit all_le
      ∙ rw e refl
