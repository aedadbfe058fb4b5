-- Types beside those of greater budgets.
use Rattle.std.proofs.Common.{◌≡◌, ℕ, suc, true, false, List, [], ◌∷◌, Option, Some, None, refl, sym, ap, subst, arith}
use Rattle.std.specs.Prelude.{nat_le}
use Rattle.ui_base.specs.declared.value.Spot.{Spot}
use Rattle.ui_scan.specs.declared.kind.TokenKind.TheVariants.{LParen, RParen, LBracket, RBracket, LBrace, RBrace, Comma, Semi, Ellipsis, Mul, Or, Tilde, Map, Func, Struct, Interface}
use Rattle.ui_tree.specs.declared.part.Placed.{Placed}
use Rattle.ui_tree.specs.declared.part.Group.{Group}
use Rattle.ui_tree.specs.Tree.{TypeTree}
use Rattle.ui_grammar.specs.Word.{Word}
use Rattle.ui_parse.specs.Reader.{Reader, and_then, pure, refuse, marked, named as a_name, expect_name}
use Rattle.ui_parse.proofs.Outcomes.{marked_is}
use Rattle.ui_parse.proofs.Steady.{steady_pure, steady_expect, steady_expect_name}
use Rattle.ui_syntax.specs.declared.site.Site.TheVariants as site
use Rattle.ui_syntax.specs.declared.site.TypeSite.{TypeSite}
use Rattle.ui_syntax.specs.declared.site.TypeSite.TheVariants as at
use Rattle.ui_syntax.specs.Cover.{Read}
use Rattle.ui_syntax.specs.Types.{Listed, or_refuse, tilde_of, any_end, one_more, named_type, add_field, one_name_more, field, struct_type, interface_type, map_type, array_type, counted_type, counted_or_array, bracket_type, func_type, deep_type, operand_type, pointer_type, parenthesized_type, marked_type, other_type, plain_type, term, union_from, maybe_union, element, maybe_type, a_type, a_lower_type, an_element, opened}
use Rattle.ui_syntax.specs.Read.{readers}
use Rattle.ui_depth.proofs.Deeper.{StopsAt, reads, faults, stops_as, Deepens, Never, deep_bind, deep_same, deep_pure, deep_refuse, deep_room, deep_take, deep_ahead, deep_refuse_then, cond_off, stops_then, then_fault, halt_expect}
use Rattle.ui_depth.proofs.Goes.{goes_type, begins, begins_goes, no_goes, no_goes_type}
use Rattle.ui_depth.proofs.Lists.{deep_chain, deep_parts, chain_stops}
use Rattle.ui_depth.proofs.Budgets.{above, room_for, TypeStop, MaybeStop, AreDeeper, none_stops, deep_there, deep_or_refuse}
use Rattle.ui_depth.proofs.Operands.{ellipsis_refused}
use Rattle.ui_depth.proofs.DeepParams.{ListStop, deep_one_more, deep_named_type, deep_a_type, deep_a_lower_type, deep_signature}

name_ahead : Deepens Never refuse (λ e. expect_name)
unfolding expect_name
name_ahead = deep_ahead a_name (λ p w r e. faults refl) (λ e p u. (steady_pure p).ends u) deep_refuse

module _ (d : ℕ) (is : AreDeeper d) where
  deep_an_element : Deepens TypeStop (an_element d (readers d)) (λ e. an_element (above d e) (readers (above d e)))
  deep_an_element = deep_there at.Element (is.maybe_type at.Element)

  -- ---- structs and interfaces

  deep_add_field : (l : Listed (Group TypeTree)) (ns : List Placed) → Deepens ListStop (add_field d (readers d) l ns) (λ e. add_field (above d e) (readers (above d e)) l ns)
  deep_add_field l ns = deep_bind (deep_a_type d is) (λ t. deep_pure _) (λ t w r g. reads _ refl g)

  deep_one_name_more : (ns : List Placed) → Deepens Never (one_name_more d (readers d) ns) (λ e. one_name_more (above d e) (readers (above d e)) ns)
  deep_one_name_more ns = deep_bind {D = Never} (deep_same steady_expect_name) (λ p. deep_pure _) (λ p w r h. absurd h)

  deep_fields : (l : Listed (Group TypeTree)) → Deepens ListStop (field d (readers d) l) (λ e. field (above d e) (readers (above d e)) l)
  unfolding field
  deep_fields l =
      let more : (p : Placed) → Deepens ListStop _ (λ e. _) = λ p. deep_bind
      (deep_chain Comma (one_name_more d (readers d)) (λ e. one_name_more (above d e) (readers (above d e))) Never deep_one_name_more (λ ns w h. absurd h) (p ∷ [])) (deep_add_field l) (λ ns w r h. absurd h) in
      deep_room (nat_le 1 d) (λ e. nat_le 1 (above d e)) _ (λ e. room_for 1 d e (omega arith))
      (λ _. deep_bind {D = Never} (deep_same steady_expect_name) more (λ p w r h. absurd h))
      (λ _. deep_refuse_then name_ahead (λ e p u. (more p).ends e u))

  deep_struct_type : (s : Spot) → Deepens TypeStop (struct_type d (readers d) s) (λ e. struct_type (above d e) (readers (above d e)) s)
  unfolding struct_type
  deep_struct_type s = deep_bind {D = Never} (deep_same (steady_expect LBrace))
      (λ _. deep_bind (deep_parts Semi RBrace any_end (field d (readers d)) (λ e. field (above d e) (readers (above d e))) ListStop Never deep_fields (λ l w g. no_goes_type Semi w g refl) (λ l w g. no_goes_type RBrace w g refl) _)
      (λ gs. deep_pure _) (λ gs w r h. absurd h))
      (λ b w r h. absurd h)

  deep_interface_type : (s : Spot) → Deepens TypeStop (interface_type d (readers d) s) (λ e. interface_type (above d e) (readers (above d e)) s)
  unfolding interface_type
  deep_interface_type s = deep_bind {D = Never} (deep_same (steady_expect LBrace))
      (λ _. deep_bind (deep_parts Semi RBrace any_end (one_more (an_element d (readers d))) (λ e. one_more (an_element (above d e) (readers (above d e)))) ListStop Never
      (deep_one_more (an_element d (readers d)) (λ e. an_element (above d e) (readers (above d e))) deep_an_element) (λ l w g. no_goes_type Semi w g refl) (λ l w g. no_goes_type RBrace w g refl) _)
      (λ us. deep_pure _) (λ us w r h. absurd h))
      (λ b w r h. absurd h)

  -- ---- types

  deep_opened : (p : TypeSite) {t : Reader (Read TypeTree)} {ts : ℕ → Reader (Read TypeTree)} → Deepens TypeStop t ts → Deepens (MaybeStop p) (opened d (readers d) t) (λ e. opened (above d e) (readers (above d e)) (ts e))
  deep_opened p of = deep_bind of (λ t. deep_pure (Some t)) (λ t w r g. reads _ refl g)

  deep_map_type : (s : Spot) → Deepens TypeStop (map_type d (readers d) s) (λ e. map_type (above d e) (readers (above d e)) s)
  deep_map_type s = deep_bind {D = Never} (deep_same (steady_expect LBracket))
      (λ _. deep_bind (deep_a_type d is)
      (λ k. deep_bind {D = Never} (deep_same (steady_expect RBracket)) (λ _. deep_bind (deep_a_type d is) (λ t. deep_pure _) (λ t w r g. reads _ refl g)) (λ b w r h. absurd h))
      (λ k w r g. halt_expect RBracket _ (no_goes_type RBracket w g refl)))
      (λ b w r h. absurd h)

  deep_array_type : (s : Spot) → Deepens TypeStop (array_type d (readers d) s) (λ e. array_type (above d e) (readers (above d e)) s)
  deep_array_type s = deep_bind (is.level site.Plain 1)
      (λ x. deep_bind {D = Never} (deep_same (steady_expect RBracket)) (λ _. deep_bind (deep_a_type d is) (λ t. deep_pure _) (λ t w r g. reads _ refl g)) (λ b w r h. absurd h))
      (λ x w r h. halt_expect RBracket _ (no_goes RBracket w h.word refl))

  deep_counted_type : (t : Reader (Read TypeTree)) (ts : ℕ → Reader (Read TypeTree)) → Deepens TypeStop t ts → (s : Spot) → Deepens TypeStop (counted_type d (readers d) t s) (λ e. counted_type (above d e) (readers (above d e)) (ts e) s)
  deep_counted_type t ts type_is s = deep_bind {D = Never} (deep_same (steady_expect RBracket)) (λ _. deep_bind type_is (λ t. deep_pure _) (λ t w r g. reads _ refl g)) (λ b w r h. absurd h)

  -- where there is no room for `...`, no length begins with it
  dots_stop : (s : Spot) (b : Spot) (w : Word) (r : List Word) → marked Ellipsis w ≡ Some b → StopsAt TypeStop (array_type d (readers d) s (w ∷ r)) w r
  dots_stop s b w r e = subst (λ (v : Word). StopsAt TypeStop (array_type d (readers d) s (v ∷ r)) v r) (sym (marked_is Ellipsis w b e))
      (faults (then_fault _ _ (ellipsis_refused d b r)))

  deep_counted_or_array : (p : TypeSite) (s : Spot) → Deepens TypeStop (counted_or_array d (readers d) p s) (λ e. counted_or_array (above d e) (readers (above d e)) p s)
  deep_counted_or_array at.Plain s = deep_array_type s
  deep_counted_or_array at.Element s = deep_array_type s
  deep_counted_or_array at.Operand s = deep_take (marked Ellipsis) (λ _. deep_counted_type (a_type d (readers d)) (λ e. a_type (above d e) (readers (above d e))) (deep_a_type d is) s) (deep_array_type s)
  deep_counted_or_array at.Argument s =
      let lower : Deepens TypeStop _ (λ e. _) = deep_counted_type (a_lower_type d (readers d)) (λ e. a_lower_type (above d e) (readers (above d e))) (deep_a_lower_type d is) s in
      deep_room (nat_le 2 d) (λ e. nat_le 2 (above d e)) _ (λ e. room_for 2 d e (omega arith))
      (λ _. deep_take (marked Ellipsis) (λ _. lower) (deep_array_type s))
      (λ _. deep_ahead (marked Ellipsis) (λ b w r e. dots_stop s b w r e) (λ e _ u. lower.ends e u) (deep_array_type s))

  pub deep_bracket_type : (p : TypeSite) (s : Spot) → Deepens TypeStop (bracket_type d (readers d) p s) (λ e. bracket_type (above d e) (readers (above d e)) p s)
  unfolding bracket_type
  deep_bracket_type p s = deep_take (marked RBracket) (λ _. deep_bind (deep_a_type d is) (λ t. deep_pure _) (λ t w r g. reads _ refl g)) (deep_counted_or_array p s)

  deep_func_type : (s : Spot) → Deepens TypeStop (func_type d (readers d) s) (λ e. func_type (above d e) (readers (above d e)) s)
  deep_func_type s = deep_bind {D = Never} (deep_same (steady_expect LParen)) (λ _. deep_signature d is _) (λ b w r h. absurd h)

  -- Where there is no room for an array, a slice or a map, nothing of it is read.
  abbrev StopsThere : TypeSite → Reader (Option (Read TypeTree)) → Type 0
  StopsThere p other = (w : Word) (r : List Word) → goes_type w ≡ true → nat_le 1 d ≡ false → StopsAt (MaybeStop p) (other (w ∷ r)) w r

  deep_deep_type : (p : TypeSite) {other : Reader (Option (Read TypeTree))} {others : ℕ → Reader (Option (Read TypeTree))} → Deepens (MaybeStop p) other others → StopsThere p other
      → Deepens (MaybeStop p) (deep_type d (readers d) p other) (λ e. deep_type (above d e) (readers (above d e)) p (others e))
  deep_deep_type p other_is stops = deep_room (nat_le 1 d) (λ e. nat_le 1 (above d e)) _ (λ e. room_for 1 d e (omega arith))
      (λ _. deep_take (marked LBracket) (λ s. deep_opened p (deep_bracket_type p s)) (deep_take (marked Map) (λ s. deep_opened p (deep_map_type s)) other_is))
      (λ off. deep_ahead (marked LBracket) (λ s w r e. stops w r (ap goes_type (marked_is LBracket w s e)) off) (λ e s u. (deep_opened p (deep_bracket_type p s)).ends e u)
      (deep_ahead (marked Map) (λ s w r e. stops w r (ap goes_type (marked_is Map w s e)) off) (λ e s u. (deep_opened p (deep_map_type s)).ends e u) other_is))

  pub deep_operand_type : (p : TypeSite) {other : Reader (Option (Read TypeTree))} {others : ℕ → Reader (Option (Read TypeTree))} → Deepens (MaybeStop p) other others → StopsThere p other
      → Deepens (MaybeStop p) (operand_type d (readers d) p other) (λ e. operand_type (above d e) (readers (above d e)) p (others e))
  unfolding operand_type
  deep_operand_type p other_is stops = deep_take (marked Func) (λ s. deep_opened p (deep_func_type s))
      (deep_take (marked Struct) (λ s. deep_opened p (deep_struct_type s)) (deep_take (marked Interface) (λ s. deep_opened p (deep_interface_type s)) (deep_deep_type p other_is stops)))

  deep_pointer_type : (s : Spot) → Deepens TypeStop (pointer_type d (readers d) s) (λ e. pointer_type (above d e) (readers (above d e)) s)
  deep_pointer_type s = deep_bind (deep_a_type d is) (λ t. deep_pure _) (λ t w r g. reads _ refl g)

  deep_parenthesized_type : (s : Spot) → Deepens TypeStop (parenthesized_type d (readers d) s) (λ e. parenthesized_type (above d e) (readers (above d e)) s)
  deep_parenthesized_type s = deep_bind (deep_a_type d is) (λ t. deep_bind {D = Never} (deep_same (steady_expect RParen)) (λ _. deep_pure _) (λ b w r h. absurd h)) (λ t w r g. halt_expect RParen _ (no_goes_type RParen w g refl))

  deep_marked_type : Deepens (MaybeStop at.Plain) (marked_type d (readers d)) (λ e. marked_type (above d e) (readers (above d e)))
  deep_marked_type = deep_room (nat_le 1 d) (λ e. nat_le 1 (above d e)) _ (λ e. room_for 1 d e (omega arith))
      (λ _. deep_take (marked Mul) (λ s. deep_opened at.Plain (deep_pointer_type s)) (deep_take (marked LParen) (λ s. deep_opened at.Plain (deep_parenthesized_type s)) (deep_pure None)))
      (λ _. deep_ahead (marked Mul) (λ s w r e. reads None refl (ap begins (marked_is Mul w s e))) (λ e s u. (deep_opened at.Plain (deep_pointer_type s)).ends e u)
      (deep_ahead (marked LParen) (λ s w r e. reads None refl (ap begins (marked_is LParen w s e))) (λ e s u. (deep_opened at.Plain (deep_parenthesized_type s)).ends e u) (deep_pure None)))

  marked_stops : StopsThere at.Plain (marked_type d (readers d))
  marked_stops w r g off = stops_as (none_stops at.Plain w r g) (cond_off (nat_le 1 d) _ (pure None) (w ∷ r) off)

  deep_other_type : Deepens (MaybeStop at.Plain) (other_type d (readers d)) (λ e. other_type (above d e) (readers (above d e)))
  deep_other_type = deep_operand_type at.Plain deep_marked_type marked_stops

  deep_named : (p : Placed) → Deepens TypeStop (named_type (suc d) (a_type d (readers d)) p) (λ e. named_type (suc (above d e)) (a_type (above d e) (readers (above d e))) p)
  deep_named p = deep_named_type (a_type d (readers d)) (λ e. a_type (above d e) (readers (above d e))) (deep_a_type d is) (suc d) (λ e. suc (above d e)) p (λ k e le. room_for k (suc d) e (omega (arith, le)))

  pub deep_plain_type : Deepens (MaybeStop at.Plain) (plain_type d (readers d)) (λ e. plain_type (above d e) (readers (above d e)))
  unfolding plain_type
  deep_plain_type = deep_take a_name (λ p. deep_opened at.Plain (deep_named p)) deep_other_type

  -- ---- elements of interfaces

  tilde_stops : (m : Option (Read TypeTree)) (s : Spot) (w : Word) (r : List Word) → MaybeStop at.Plain m w → StopsAt TypeStop (and_then (or_refuse m (w ∷ r)) (λ t. pure (tilde_of d (readers d) s t))) w r
  tilde_stops None s w r g = faults refl
  tilde_stops (Some t) s w r g = reads _ refl g

  deep_term : Deepens TypeStop (term d (readers d)) (λ e. term (above d e) (readers (above d e)))
  unfolding term
  deep_term = deep_take (marked Tilde)
      (λ s. deep_bind deep_plain_type (λ m. deep_bind {D = Never} (deep_or_refuse m) (λ t. deep_pure _) (λ t w r h. absurd h)) (λ m w r g. tilde_stops m s w r g))
      (deep_there at.Plain deep_plain_type)

  pub deep_union_from : (t : Read TypeTree) → Deepens (MaybeStop at.Element) (union_from d (readers d) t) (λ e. union_from (above d e) (readers (above d e)) t)
  unfolding union_from
  deep_union_from t = deep_bind
      (deep_chain Or (one_more (term d (readers d))) (λ e. one_more (term (above d e) (readers (above d e)))) ListStop (deep_one_more (term d (readers d)) (λ e. term (above d e) (readers (above d e))) deep_term) (λ l w g. no_goes_type Or w g refl) _)
      (λ us. deep_pure _) (λ us w r g. reads _ refl g)

  union_stops : (t : Read TypeTree) (w : Word) (r : List Word) → goes_type w ≡ true → StopsAt (MaybeStop at.Element) (union_from d (readers d) t (w ∷ r)) w r
  unfolding union_from
  union_stops t w r g = stops_then _ _ w r (chain_stops {D = ListStop} Or (one_more (term d (readers d))) _ w r (no_goes_type Or w g refl) g) (λ us _ h. reads _ refl h)

  pub deep_maybe_union : (x : Option (Read TypeTree)) → Deepens (MaybeStop at.Element) (maybe_union d (readers d) x) (λ e. maybe_union (above d e) (readers (above d e)) x)
  deep_maybe_union None = deep_pure None
  deep_maybe_union (Some t) = deep_union_from t

  maybe_union_stops : (x : Option (Read TypeTree)) (w : Word) (r : List Word) → MaybeStop at.Plain x w → StopsAt (MaybeStop at.Element) (maybe_union d (readers d) x (w ∷ r)) w r
  maybe_union_stops None w r g = reads None refl (begins_goes w g)
  maybe_union_stops (Some t) w r g = union_stops t w r g

  deep_element : Deepens (MaybeStop at.Element) (element d (readers d)) (λ e. element (above d e) (readers (above d e)))
  unfolding element
  deep_element = deep_take a_name
      (λ p. deep_take (marked LParen) (λ _. deep_opened at.Element (deep_signature d is _)) (deep_bind (deep_named p) deep_union_from (λ t w r g. union_stops t w r g)))
      (deep_take (marked Tilde) (λ s. deep_bind (deep_there at.Plain deep_plain_type) (λ t. deep_union_from _) (λ t w r g. union_stops _ w r g)) (deep_bind deep_other_type deep_maybe_union (λ x w r g. maybe_union_stops x w r g)))

  pub deep_maybe_type : (p : TypeSite) → Deepens (MaybeStop p) (maybe_type d (readers d) p) (λ e. maybe_type (above d e) (readers (above d e)) p)
  unfolding maybe_type
  deep_maybe_type at.Plain = deep_plain_type
  deep_maybe_type at.Element = deep_element
  deep_maybe_type at.Operand = deep_operand_type at.Operand (deep_pure None) (λ w r g _. none_stops at.Operand w r g)
  deep_maybe_type at.Argument = deep_operand_type at.Argument (deep_pure None) (λ w r g _. none_stops at.Argument w r g)
