-- Operands beside those of greater budgets.
use Rattle.std.proofs.Common.{◌≡◌, ℕ, suc, ◌≤◌, Bool, true, false, List, ◌∷◌, Option, Some, None, refl, sym, ap, subst, arith}
use Rattle.std.specs.Prelude.{◌&&◌, not, nat_le}
use Rattle.ui_base.specs.declared.value.Spot.{Spot}
use Rattle.ui_scan.specs.declared.kind.TokenKind.TheVariants.{LParen, RParen, LBrace, Comma}
use Rattle.ui_tree.specs.Tree.{TypeTree, parenthesized, Tree, type_arg}
use Rattle.ui_grammar.specs.Word.{Word, mark}
use Rattle.ui_parse.specs.Reader.{◌>>=◌, pure, refuse, take_by, marked, expect, named as a_name}
use Rattle.ui_parse.proofs.Outcomes.{bad, holds_at, marked_is}
use Rattle.ui_parse.proofs.Alike.{suffix_all}
use Rattle.ui_parse.proofs.Steady.{steady_bind, steady_eat, steady_expect}
use Rattle.ui_syntax.specs.declared.site.Site.{Site}
use Rattle.ui_syntax.specs.declared.site.Site.TheVariants.{Header, Plain, Wrapped, Argument}
use Rattle.ui_syntax.specs.declared.site.TypeSite.{TypeSite}
use Rattle.ui_syntax.specs.declared.site.TypeSite.TheVariants as at
use Rattle.ui_syntax.specs.Cover.{Read, only_type, has_literals, is_counted}
use Rattle.ui_syntax.specs.Types.{of_type}
use Rattle.ui_syntax.specs.Exprs.{of_tree, a_literal, takes_types, inner_site, alone, convert_or, literal_of, behind_type, maybe_behind, type_operand, enclose, parenthesized_operand, operand}
use Rattle.ui_syntax.specs.Read.{readers}
use Rattle.ui_syntax.proofs.Steady.{readers_steady}
use Rattle.ui_syntax.proofs.SteadyExprs.{steady_maybe_behind, steady_enclose, steady_parenthesized_operand}
use Rattle.ui_depth.proofs.Deeper.{StopsAt, reads, faults, alike, Deepens, Never, deep_bind, deep_bind_at, deep_same, deep_pure, deep_refuse, deep_if, deep_split, deep_room, deep_take, deep_ahead, cond_off, weaker, halt_take, halt_expect, halt_eat, halt_if}
use Rattle.ui_depth.proofs.Goes.{goes, type_goes, goes_type, no_goes, no_goes_type}
use Rattle.ui_depth.proofs.Ends.{steady_conversion}
use Rattle.ui_depth.proofs.Budgets.{above, room_for, MaybeStop, ExprStop, AreDeeper}
use Rattle.ui_depth.proofs.Operands.{type_operand_refused}
use Rattle.ui_depth.proofs.DeepTypes.{deep_maybe_type}
use Rattle.ui_depth.proofs.Depths.{MaybeWithin, expr_depth, lower_type_depth, own_type_depth}

and_off : (a b : Bool) → b ≡ true → (a && not b) ≡ false
and_off true true e = refl
and_off true false e = absurd cc
and_off false b e = refl

module _ (d : ℕ) (is : AreDeeper d) where
  -- ---- behind a type

  alone_stops : (site : Site) (t : Read TypeTree) (w : Word) (r : List Word) → goes w ≡ true → StopsAt (ExprStop (suc d)) (alone d (readers d) site t (w ∷ r)) w r
  alone_stops site t w r g = halt_if (takes_types site && not (is_counted t.tree)) (pure (of_tree (type_arg t.tree) t.spot t.depth)) refuse
      (reads _ refl (record { full = λ only_none. absurd cc; word = g })) (faults refl)

  deep_alone : (site : Site) (t : Read TypeTree) → Deepens (ExprStop (suc d)) (alone d (readers d) site t) (λ e. alone (above d e) (readers (above d e)) site t)
  deep_alone site t = deep_if (takes_types site && not (is_counted t.tree)) (deep_pure _) deep_refuse

  counted_refused : (site : Site) (t : Read TypeTree) → is_counted t.tree ≡ true → Deepens (ExprStop (suc d)) (alone d (readers d) site t) (λ e. refuse)
  counted_refused site t counted = record {
    at = λ ws. alike (λ e. sym (cond_off (takes_types site && not (is_counted t.tree)) _ refuse ws (and_off (takes_types site) (is_counted t.tree) counted)));
    ends = λ e ws. bad (suffix_all ws);
  }

  deep_convert_or : (site : Site) (t : Read TypeTree) → Deepens (ExprStop (suc d)) (convert_or d (readers d) site t) (λ e. convert_or (above d e) (readers (above d e)) site t)
  deep_convert_or site t = deep_if (is_counted t.tree) deep_refuse
      (deep_take (marked LParen)
      (λ _. deep_bind (is.level Plain 1)
      (λ x. deep_bind {D = Never} (deep_same (steady_eat Comma)) (λ _. deep_bind {D = Never} (deep_same (steady_expect RParen)) (λ _. deep_pure _) (λ a w r h. absurd h)) (λ a w r h. absurd h))
      (λ x w r h. halt_eat Comma _ (no_goes Comma w h.word refl) (halt_expect RParen _ (no_goes RParen w h.word refl))))
      (deep_alone site t))

  pub deep_literal_of : (t : Read TypeTree) → Deepens Never (literal_of d (readers d) t) (λ e. literal_of (above d e) (readers (above d e)) t)
  deep_literal_of t = deep_bind is.braces (λ es. deep_pure _) (λ es w r h. absurd h)

  literal_stop : (t : Read TypeTree) → Deepens (ExprStop (suc d)) (literal_of d (readers d) t) (λ e. literal_of (above d e) (readers (above d e)) t)
  literal_stop t = weaker (λ a w h. absurd h) (deep_literal_of t)

  -- where the type has the whole depth
  alone_converts : (site : Site) (t : Read TypeTree) → Deepens (ExprStop (suc d)) (alone d (readers d) site t) (λ e. convert_or (above d e) (readers (above d e)) site t)
  alone_converts site t = deep_split (is_counted t.tree) (counted_refused site t)
      (λ _. deep_ahead (marked LParen) (λ s w r e. alone_stops site t w r (ap goes (marked_is LParen w s e)))
      (λ e _ u. (steady_conversion (above d e) (readers (above d e)) (readers_steady (above d e)) t).ends u) (deep_alone site t))

  deep_behind_type : (site : Site) (t : Read TypeTree) → t.depth ≤ suc d → Deepens (ExprStop (suc d)) (behind_type d (readers d) site t) (λ e. behind_type (above d e) (readers (above d e)) site t)
  unfolding behind_type
  deep_behind_type site t le = deep_room (nat_le t.depth d) (λ e. nat_le t.depth (above d e)) _ (λ e. room_for t.depth d e (omega (arith, le)))
      (λ _. deep_if (has_literals t.tree) (deep_take (marked LBrace) (λ _. literal_stop t) (deep_convert_or site t)) (deep_convert_or site t))
      (λ _. deep_split (has_literals t.tree)
      (λ _. deep_ahead (marked LBrace) (λ s w r e. alone_stops site t w r (ap goes (marked_is LBrace w s e))) (λ e _ u. (deep_literal_of t).ends e u) (alone_converts site t))
      (λ _. alone_converts site t))

  convert_stops : (site : Site) (t : Read TypeTree) (w : Word) (r : List Word) → goes_type w ≡ true → StopsAt (ExprStop (suc d)) (convert_or d (readers d) site t (w ∷ r)) w r
  convert_stops site t w r g = halt_if (is_counted t.tree) refuse _ (faults refl) (halt_take (marked LParen) _ _ (no_goes_type LParen w g refl) (alone_stops site t w r (type_goes w g)))

  behind_type_stops : (site : Site) (t : Read TypeTree) (w : Word) (r : List Word) → goes_type w ≡ true → StopsAt (ExprStop (suc d)) (behind_type d (readers d) site t (w ∷ r)) w r
  unfolding behind_type
  behind_type_stops site t w r g = halt_if (nat_le t.depth d) _ (alone d (readers d) site t)
      (halt_if (has_literals t.tree) (take_by (marked LBrace) (λ _. literal_of d (readers d) t) (convert_or d (readers d) site t)) (convert_or d (readers d) site t)
      (halt_take (marked LBrace) _ _ (no_goes_type LBrace w g refl) (convert_stops site t w r g)) (convert_stops site t w r g))
      (alone_stops site t w r (type_goes w g))

  -- ---- types as operands

  maybe_behind_stops : (p : TypeSite) (site : Site) (x : Option (Read TypeTree)) (w : Word) (r : List Word) → MaybeStop p x w → StopsAt (ExprStop (suc d)) (maybe_behind d (readers d) site x (w ∷ r)) w r
  maybe_behind_stops p site None w r g = faults refl
  maybe_behind_stops p site (Some t) w r g = behind_type_stops site t w r g

  deep_maybe_behind : (site : Site) (x : Option (Read TypeTree)) → MaybeWithin (suc d) x → Deepens (ExprStop (suc d)) (maybe_behind d (readers d) site x) (λ e. maybe_behind (above d e) (readers (above d e)) site x)
  deep_maybe_behind site None le = deep_refuse
  deep_maybe_behind site (Some t) le = deep_behind_type site t le

  within_more : (x : Option (Read TypeTree)) → MaybeWithin d x → MaybeWithin (suc d) x
  within_more None h = tt
  within_more (Some t) h = omega (arith, h)

  lower_operand : (site : Site) → Deepens (ExprStop (suc d)) ((readers d).maybe_type at.Operand >>= maybe_behind d (readers d) site) (λ e. (readers (above d e)).maybe_type at.Operand >>= maybe_behind (above d e) (readers (above d e)) site)
  lower_operand site = deep_bind_at (is.maybe_type at.Operand)
      (λ ws x u e. (deep_maybe_behind site x (within_more x (holds_at (lower_type_depth d at.Operand ws) e).holds)).at u)
      (λ ws x w r e g. maybe_behind_stops at.Operand site x w r g)
      (λ e x u. (steady_maybe_behind (above d e) (readers (above d e)) (readers_steady (above d e)) site x).ends u)

  deep_type_operand : (site : Site) → Deepens (ExprStop (suc d)) (type_operand d (readers d) site) (λ e. type_operand (above d e) (readers (above d e)) site)
  deep_type_operand Argument = deep_bind_at (deep_maybe_type d is at.Argument)
      (λ ws x u e. (deep_maybe_behind Argument x (holds_at (own_type_depth d at.Argument ws) e).holds).at u)
      (λ ws x w r e g. maybe_behind_stops at.Argument Argument x w r g)
      (λ e x u. (steady_maybe_behind (above d e) (readers (above d e)) (readers_steady (above d e)) Argument x).ends u)
  deep_type_operand Header = lower_operand Header
  deep_type_operand Plain = lower_operand Plain
  deep_type_operand Wrapped = lower_operand Wrapped

  -- ---- operands

  deep_enclose : (site : Site) (s : Spot) (x : Read Tree) (t : Option TypeTree) → x.depth ≤ d → Deepens (ExprStop (suc d)) (enclose d (readers d) site s x t) (λ e. enclose (above d e) (readers (above d e)) site s x t)
  deep_enclose site s x None le = deep_pure _
  deep_enclose site s x (Some t) le = deep_behind_type site (of_type (parenthesized s t) s (suc x.depth)) (omega (arith, le))

  deep_parenthesized : (site : Site) (s : Spot) → Deepens (ExprStop (suc d)) (parenthesized_operand d (readers d) site s) (λ e. parenthesized_operand (above d e) (readers (above d e)) site s)
  unfolding parenthesized_operand
  deep_parenthesized site s = deep_bind_at (is.level (inner_site site) 1)
      (λ ws x u e. (closed x (holds_at (expr_depth d (inner_site site) 1 ws (omega arith)) e).holds).at u)
      (λ ws x w r e h. halt_expect RParen _ (no_goes RParen w h.word refl))
      (λ e x u. (steady_bind (steady_expect RParen) (λ _. steady_enclose (above d e) (readers (above d e)) (readers_steady (above d e)) site s x (only_type x.tree))).ends u)
    where
      closed : (x : Read Tree) → x.depth ≤ d → Deepens (ExprStop (suc d)) (expect RParen >>= (λ _. enclose d (readers d) site s x (only_type x.tree))) (λ e. expect RParen >>= (λ _. enclose (above d e) (readers (above d e)) site s x (only_type x.tree)))
      closed x le = deep_bind {D = Never} (deep_same (steady_expect RParen)) (λ _. deep_enclose site s x (only_type x.tree) le) (λ a w r h. absurd h)

  paren_refused : (site : Site) (s : Spot) (w : Word) (r : List Word) → marked LParen w ≡ Some s → StopsAt (ExprStop (suc d)) (type_operand d (readers d) site (w ∷ r)) w r
  paren_refused site s w r e = subst (λ (v : Word). StopsAt (ExprStop (suc d)) (type_operand d (readers d) site (v ∷ r)) v r) (sym (marked_is LParen w s e))
      (faults (type_operand_refused d site (mark LParen s) r (record { no_func = refl; no_struct = refl; no_interface = refl; no_bracket = refl; no_map = refl })))

  pub deep_operand : (site : Site) → Deepens (ExprStop (suc d)) (operand d (readers d) site) (λ e. operand (above d e) (readers (above d e)) site)
  unfolding operand
  deep_operand site = deep_take a_literal (λ l. deep_pure _) (deep_take a_name (λ p. deep_pure _)
      (deep_room (nat_le 1 d) (λ e. nat_le 1 (above d e)) _ (λ e. room_for 1 d e (omega arith))
      (λ _. deep_take (marked LParen) (λ s. deep_parenthesized site s) (deep_type_operand site))
      (λ _. deep_ahead (marked LParen) (λ s w r e. paren_refused site s w r e) (λ e s u. (steady_parenthesized_operand (above d e) (readers (above d e)) (readers_steady (above d e)) site s).ends u) (deep_type_operand site))))
