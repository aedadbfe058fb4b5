-- Results in parentheses, and others.
use Rattle.std.proofs.Common.{◌≡◌, ℕ, List, map, Option, Some, Result, sym, ap, ◌∙◌, subst}
use Rattle.std.specs.Option.{option_map}
use Rattle.ui_base.specs.declared.value.Spot.{Spot}
use Rattle.ui_base.specs.declared.fault.CheckFault.{CheckFault}
use Rattle.ui_tree.specs.declared.part.Group.{Group}
use Rattle.ui_tree.specs.declared.expr.TypeExpr.{TypeExpr}
use Rattle.ui_tree.specs.declared.expr.TypeExpr.TheVariants as tv
use Rattle.ui_tree.specs.Tree.{listed, given_type}
use Rattle.ui_tree.specs.View.{kept, groups, group_with, maybe_type, type_view}
use Rattle.ui_tree.specs.Views.{seen_Listed}
use Rattle.ui_tree.proofs.Apart.{apart_Listed}
use Rattle.ui_scopes.specs.Steps.{Checks}
use Rattle.ui_collect.specs.Names.{Names}
use Rattle.ui_collect.specs.Lists.{type_rule, groups_rule, result_rule}
use Rattle.ui_collect.specs.Views.{Moves, Holds}
use Rattle.ui_collect.proofs.StepLemmas.{then_dropped}
use Rattle.ui_collect.proofs.ListLemmas.{unlisted}

module _ (file : List ℕ) (names : Names) (r : Option TypeExpr) (of : TypeExpr) (some : r ≡ Some
    of) where
  results : result_rule file names (maybe_type (option_map type_view r))
      ≡ result_rule file names (given_type (type_view of))
  results = ap (λ o. result_rule file names (maybe_type (option_map type_view o))) some

  pub listed_holds : (g : TypeExpr) (s : Spot) (gs xs : List (Group TypeExpr)) (now : Names)
      (res : Result (Unit {0}) CheckFault) → g ≡ of → g ≡ tv.Listed s gs → xs ≡ gs
      → Moves (groups_rule file names (groups kept (map (group_with type_view) xs))) res now
      → Holds (result_rule file names (maybe_type (option_map type_view r))) res
  listed_holds g s gs xs now res e is same m =
      let P : Checks (Unit {0}) → Type 0 = λ k. Holds k res in
      let view : type_view of ≡ listed s (groups kept (map (group_with type_view) xs)) =
      ap type_view (sym e ∙ is) ∙ seen_Listed kept s gs
      ∙ ap (λ ys. listed s (groups kept (map (group_with type_view) ys))) (sym same) in
      subst P (sym (results ∙ ap (λ t. result_rule file names (given_type t)) view))
      (then_dropped (groups_rule file names (groups kept (map (group_with type_view) xs))) now
      res m)

  pub unlisted_holds : (g h : TypeExpr) (res : Result (Unit {0}) CheckFault) → g ≡ of → h ≡ of
      → ((s : Spot) (gs : List (Group TypeExpr)) → g ≡ tv.Listed s gs → ⊥)
      → Holds (type_rule file (type_view h)) res
      → Holds (result_rule file names (maybe_type (option_map type_view r))) res
  unlisted_holds g h res e f other k =
      let P : Checks (Unit {0}) → Type 0 = λ m. Holds m res in
      let same : type_rule file (type_view g) ≡ result_rule file names (given_type (type_view g)) =
      unlisted file names (type_view g) (λ s gs. apart_Listed kept g other s gs) in
      let first : type_rule file (type_view h) ≡ type_rule file (type_view g) =
      ap (λ x. type_rule file (type_view x)) (f ∙ sym e) in
      let last : result_rule file names (given_type (type_view g)) ≡ result_rule file names
      (given_type (type_view of)) =
      ap (λ x. result_rule file names (given_type (type_view x))) e in
      subst P (first ∙ same ∙ last ∙ sym results) k
