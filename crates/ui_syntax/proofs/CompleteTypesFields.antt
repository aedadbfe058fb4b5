-- Structs and interfaces are read.
use Rattle.std.proofs.Common.{◌≡◌, ℕ, suc, ◌≤◌, max, true, List, [], ◌∷◌, ◌++◌, None, Ok, refl, sym, ap, ◌∙◌, append_assoc, arith}
use Rattle.std.proofs.lemmas.List.{append-nil}
use Rattle.ui_base.specs.declared.value.Spot.{Spot}
use Rattle.ui_scan.specs.declared.kind.TokenKind.TheVariants.{LBrace, RBrace, Comma, Semi}
use Rattle.ui_tree.specs.declared.part.Placed.{Placed}
use Rattle.ui_tree.specs.declared.part.Group.{Group}
use Rattle.ui_tree.specs.Tree.{TypeTree, struct, interface, Types, Groups, groups_end, group_and}
use Rattle.ui_grammar.specs.Word.{Word, Mark, NamesTail}
use Rattle.ui_grammar.specs.Spells.{SpellsType, SpellsTypes, SpellsGroups, SpellsGroupsTail, Labels}
use Rattle.ui_grammar.specs.Fits.{plain_type, interface_element, all_named, type_depth, types_depth, groups_depth, FitsType, FitsTypes, FitsGroups}
use Rattle.ui_parse.specs.Reader.{Outcome, and_then, first, marked, chain, parts, more_parts}
use Rattle.ui_parse.proofs.Outcomes.{expect_name_ident, expect_mark}
use Rattle.ui_parse.proofs.TurnLaws.{chain_end, chain_next, parts_step, parts_close, more_next, more_ends}
use Rattle.ui_syntax.specs.Types.{Nested, Listed, add, empty, group, any_end, one_name_more, field, struct_type, interface_type, of_type, an_element}
use Rattle.ui_syntax.proofs.Quiet.{Stop, stop_brace, stop_semi, stop_mark, stop_closes, quiet_type_stop, no_type_stop, not_or_stop}
use Rattle.ui_syntax.proofs.SteadyTypes.{steady_one_name_more, steady_field, steady_an_element}
use Rattle.ui_syntax.proofs.Places.{type_positive}
use Rattle.ui_syntax.proofs.FirstWords.{term_mark, name_or, starts_other, first_of_element}
use Rattle.ui_syntax.proofs.CompleteTypesBase.{not_type_first, Below, ReadAs, group_list, groups_of_list, types_of_list, a_type_reads, an_element_reads}
use Rattle.ui_syntax.proofs.CompleteTypesLists.{room_is, types_read}

-- what was read, and then these
abbrev pub with_groups : Listed (Group TypeTree) → Groups → Listed (Group TypeTree)
with_groups l gs = record { items = l.items ++ group_list gs; depth = max l.depth (groups_depth gs) }

pub with_none : (l : Listed (Group TypeTree)) → l ≡ with_groups l groups_end
with_none l = let e : max l.depth 0 ≡ l.depth = omega arith in rw (append-nil, e) refl

pub with_one : (l : Listed (Group TypeTree)) (ns : List Placed) (t : TypeTree) (gs : Groups) → with_groups (add l (group ns t) (type_depth t)) gs ≡ with_groups l (group_and ns t gs)
with_one l ns t gs =
    let e : max (max l.depth (type_depth t)) (groups_depth gs) ≡ max l.depth (max (type_depth t) (groups_depth gs)) = omega arith in
    rw (append_assoc, e) refl

module _ (room low : ℕ) (inner : Nested) (has : Below room low inner) where
  names_tail_read : (ps ns : List Placed) (ts rest : List Word) → NamesTail ps ts rest → first (marked Comma) rest ≡ None → chain Comma (one_name_more room inner) ns ts ≡ Ok (ns ++ ps, rest)
  names_tail_read [] ns ts rest s quiet =
      ap (chain Comma (one_name_more room inner) ns) s ∙ chain_end Comma (one_name_more room inner) (steady_one_name_more room inner has.steady) ns rest quiet ∙ ap (λ (v : List Placed). Ok (v, rest)) (sym (append-nil ns))
  names_tail_read (p ∷ ps) ns ts rest s quiet =
      let one : one_name_more room inner ns s.0 ≡ Ok (ns ++ (p ∷ []), s.1) = rw (s.3, expect_name_ident) refl in
      ap (chain Comma (one_name_more room inner) ns) s.2.is
      ∙ chain_next Comma (one_name_more room inner) (steady_one_name_more room inner has.steady) ns s.2.spot s.0 (ns ++ (p ∷ [])) s.1 one
      ∙ names_tail_read ps (ns ++ (p ∷ [])) s.1 rest s.4 quiet
      ∙ ap (λ (v : List Placed). Ok (v, rest)) (append_assoc ns (p ∷ []) ps)

  field_read : (l : Listed (Group TypeTree)) (p : Placed) (ps : List Placed) (t : TypeTree) (ts a rest : List Word) → Labels (p ∷ ps) ts a → SpellsType t a rest → FitsType t plain_type → type_depth t ≤ room → Stop rest
      → field room inner l ts ≡ Ok (add l (group (p ∷ ps) t) (type_depth t), rest)
  unfolding field
  field_read l p ps t ts a rest labels s fits le stops =
      let names_are = names_tail_read ps (p ∷ []) labels.0 a labels.2 (not_type_first Comma (λ _. refl) t a rest s fits) in
      let type_is = a_type_reads room low inner has t a rest s fits le (quiet_type_stop t rest stops) in
      ap (field room inner l) labels.1 ∙ rw (room_is 1 room (omega (arith, type_positive t fits))) (rw (expect_name_ident, names_are) (rw type_is.is refl))

  tail_stops : (gs : Groups) (ts rest : List Word) → SpellsGroupsTail Semi RBrace gs ts rest → Stop ts
  tail_stops groups_end ts rest s = stop_closes Semi RBrace ts rest stop_semi stop_brace s
  tail_stops (group_and ns t gs) ts rest s = stop_mark Semi ts s.0 stop_semi s.3

  first_read : (l : Listed (Group TypeTree)) (p : Placed) (ps : List Placed) (t : TypeTree) (ts a rest : List Word) → Labels (p ∷ ps) ts a → SpellsType t a rest → FitsType t plain_type → type_depth t ≤ room → Stop rest
      → parts Semi RBrace any_end (field room inner) l ts ≡ more_parts Semi RBrace any_end (field room inner) (add l (group (p ∷ ps) t) (type_depth t)) rest
  first_read l p ps t ts a rest labels s fits le stops =
      parts_step Semi RBrace any_end (field room inner) (steady_field room inner has.steady) l ts (ap (first (marked RBrace)) labels.1)
      ∙ ap (λ (o : Outcome (Listed (Group TypeTree))). and_then o (more_parts Semi RBrace any_end (field room inner))) (field_read l p ps t ts a rest labels s fits le stops)

  fields_tail_read : (gs : Groups) (l : Listed (Group TypeTree)) (ts rest : List Word) → SpellsGroupsTail Semi RBrace gs ts rest → all_named gs ≡ true → FitsGroups gs plain_type → groups_depth gs ≤ room
      → more_parts Semi RBrace any_end (field room inner) l ts ≡ Ok (with_groups l gs, rest)
  fields_tail_read groups_end l ts rest s named fits le =
      more_ends Semi RBrace any_end (field room inner) (steady_field room inner has.steady) l ts rest refl refl s ∙ ap (λ (v : Listed (Group TypeTree)). Ok (v, rest)) (with_none l)
  fields_tail_read (group_and [] t gs) l ts rest s named fits le = absurd cc
  fields_tail_read (group_and (p ∷ ps) t gs) l ts rest s named fits le =
      ap (more_parts Semi RBrace any_end (field room inner) l) s.3.is
      ∙ more_next Semi RBrace any_end (field room inner) (steady_field room inner has.steady) l s.3.spot s.0 refl
      ∙ first_read l p ps t s.0 s.1 s.2 s.4 s.5 fits.0 (omega arith) (tail_stops gs s.2 rest s.6)
      ∙ fields_tail_read gs (add l (group (p ∷ ps) t) (type_depth t)) s.2 rest s.6 named fits.1 (omega arith)
      ∙ ap (λ (v : Listed (Group TypeTree)). Ok (v, rest)) (with_one l (p ∷ ps) t gs)

  fields_read : (gs : Groups) (l : Listed (Group TypeTree)) (ts rest : List Word) → SpellsGroups Semi RBrace gs ts rest → all_named gs ≡ true → FitsGroups gs plain_type → groups_depth gs ≤ room
      → parts Semi RBrace any_end (field room inner) l ts ≡ Ok (with_groups l gs, rest)
  fields_read groups_end l ts rest s named fits le =
      ap (parts Semi RBrace any_end (field room inner) l) s.is
      ∙ parts_close Semi RBrace any_end (field room inner) (steady_field room inner has.steady) l s.spot rest refl ∙ ap (λ (v : Listed (Group TypeTree)). Ok (v, rest)) (with_none l)
  fields_read (group_and [] t gs) l ts rest s named fits le = absurd cc
  fields_read (group_and (p ∷ ps) t gs) l ts rest s named fits le =
      first_read l p ps t ts s.0 s.1 s.2 s.3 fits.0 (omega arith) (tail_stops gs s.1 rest s.4)
      ∙ fields_tail_read gs (add l (group (p ∷ ps) t) (type_depth t)) s.1 rest s.4 named fits.1 (omega arith)
      ∙ ap (λ (v : Listed (Group TypeTree)). Ok (v, rest)) (with_one l (p ∷ ps) t gs)

  pub struct_read : (x : Spot) (gs : Groups) (ts b rest : List Word) → Mark LBrace ts b → SpellsGroups Semi RBrace gs b rest → all_named gs ≡ true → FitsGroups gs plain_type → groups_depth gs ≤ room
      → struct_type room inner x ts ≡ Ok (of_type (struct x gs) x (suc (groups_depth gs)), rest)
  unfolding struct_type
  struct_read x gs ts b rest brace s named fits le =
      let e : max 0 (groups_depth gs) ≡ groups_depth gs = omega arith in
      ap (struct_type room inner x) brace.is ∙ rw (expect_mark, fields_read gs empty b rest s named fits le) (rw (groups_of_list gs, e) refl)

  -- ---- interfaces

  element_reads : (t : TypeTree) (ts rest : List Word) → SpellsType t ts rest → FitsType t interface_element → type_depth t ≤ room → Stop rest → ReadAs (an_element room inner ts) t (type_depth t) rest
  element_reads t ts rest s fits le stops = an_element_reads room low inner has t ts rest s fits le (no_type_stop rest stops, quiet_type_stop t rest stops, not_or_stop rest stops)

  pub interface_read : (x : Spot) (us : Types) (ts b rest : List Word) → Mark LBrace ts b → SpellsTypes Semi RBrace us b rest → FitsTypes us interface_element → types_depth us ≤ room
      → interface_type room inner x ts ≡ Ok (of_type (interface x us) x (suc (types_depth us)), rest)
  unfolding interface_type
  interface_read x us ts b rest brace s fits le =
      let e : max 0 (types_depth us) ≡ types_depth us = omega arith in
      let elements = types_read Semi RBrace stop_semi stop_brace refl interface_element (λ t ts rest s f. starts_other (name_or term_mark) RBrace ts (λ _. refl) (first_of_element t ts rest s f)) room (an_element room inner) (steady_an_element room inner has.steady) element_reads us empty b rest s fits le in
      ap (interface_type room inner x) brace.is ∙ rw (expect_mark, elements) (rw (types_of_list us, e) refl)
