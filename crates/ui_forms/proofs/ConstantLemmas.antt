-- Constants one after another.
use Rattle.std.proofs.Common.{◌≡◌, ℕ, ◌+◌, ◌<◌, ◌≤◌, List, [], ◌∷◌, ◌++◌, map, drop, length, get_or, Option, Some, None, Result, Ok, Err, refl, sym, ap, subst, ◌∙◌, arith}
use Rattle.std.specs.FinMap.{insert}
use Rattle.ui_base.specs.declared.value.Spot.{Spot}
use Rattle.ui_tree.specs.declared.decl.DeclTree.{DeclTree}
use Rattle.ui_tree.specs.declared.expr.ExprTree.{ExprTree}
use Rattle.ui_tree.specs.StmtView.{decl_view, maybe_trees}
use Rattle.ui_forms.specs.Numbers.{Numbered, has}
use Rattle.ui_base.specs.Steps.{and_then}
use Rattle.ui_forms.specs.Sums.{Known, with_name}
use Rattle.ui_forms.specs.Form.{constant_of, constants_of, one_tree}
use Rattle.ui_forms.specs.Choosing.{GivesPart}
use Rattle.ui_forms.specs.declared.part.ConstantSum.{ConstantSum}
use Rattle.ui_forms.specs.declared.fault.PartFault.{PartFault}
use Rattle.ui_forms.specs.declared.fault.PartFault.TheVariants.{NotTaken, NoMemory}
use Rattle.ui_forms.proofs.NumberLemmas.{has-insert}
use Rattle.ui_base.proofs.StepLemmas.{behind, behind-end, behind_more, turn, no_turn}

module _ (imports : Known) (own : Numbered) (ds : List DeclTree) (i : ℕ) (cs : List ConstantSum) (target : Result (List ConstantSum) Spot) where
  abbrev IsSoFar : Type 0
  IsSoFar = behind cs (constants_of imports (has own) (map decl_view (drop i ds))) ≡ target

  taken : (d : DeclTree) (r : Result ConstantSum Spot) → i < length ds → d ≡ get_or ds i d → IsSoFar → constant_of imports (has own) (decl_view d) ≡ r → behind cs (and_then (λ c. and_then (λ more. Ok (c ∷ more)) (constants_of imports (with_name c.name (has own)) (map decl_view (drop (i + 1) ds)))) r) ≡ target
  taken d r h is before got =
      sym (ap (λ x. behind cs (and_then (λ c. and_then (λ more. Ok (c ∷ more)) (constants_of imports (with_name c.name (has own)) (map decl_view (drop (i + 1) ds)))) x)) got)
      ∙ sym (ap (λ bs. behind cs (constants_of imports (has own) bs)) (turn decl_view ds i d h is))
      ∙ before

  pub constants_more : (own' : Numbered) (d : DeclTree) (c : ConstantSum) (cs' : List ConstantSum) (text : List ℕ) (n : ℕ) → i < length ds → d ≡ get_or ds i d → IsSoFar → constant_of imports (has own) (decl_view d) ≡ Ok c → text ≡ c.name → own' ≡ insert own text n → cs' ≡ cs ++ c ∷ [] → behind cs' (constants_of imports (has own') (map decl_view (drop (i + 1) ds))) ≡ target
  constants_more own' d c cs' text n h is before got named now grown =
      ap (λ xs. behind xs (constants_of imports (has own') (map decl_view (drop (i + 1) ds)))) grown
      ∙ ap (λ m. behind (cs ++ c ∷ []) (constants_of imports (has m) (map decl_view (drop (i + 1) ds)))) now
      ∙ ap (λ k. behind (cs ++ c ∷ []) (constants_of imports k (map decl_view (drop (i + 1) ds)))) (has-insert own text n)
      ∙ ap (λ t. behind (cs ++ c ∷ []) (constants_of imports (with_name t (has own)) (map decl_view (drop (i + 1) ds)))) named
      ∙ sym (behind_more cs c (constants_of imports (with_name c.name (has own)) (map decl_view (drop (i + 1) ds))))
      ∙ taken d (Ok c) h is before got

  pub constants_stop : (d : DeclTree) (e : PartFault) → i < length ds → d ≡ get_or ds i d → IsSoFar → GivesPart (constant_of imports (has own) (decl_view d)) (Err e) → GivesPart target (Err e)
  constants_stop d (NotTaken s) h is before g = sym (taken d (Err s) h is before g)
  constants_stop d NoMemory h is before g = tt

  pub constants_end : length ds ≤ i → IsSoFar → target ≡ Ok cs
  constants_end h before = sym before ∙ ap (λ bs. behind cs (constants_of imports (has own) bs)) (no_turn decl_view ds i h) ∙ behind-end cs

-- ---- several expressions

several : (es : List ExprTree) → 2 ≤ length es → one_tree (maybe_trees (Some es)) ≡ None
several [] h = absurd (omega arith)
several (e ∷ []) h = absurd (omega (arith, h))
several (e ∷ e' ∷ es) h = refl

pub several_trees : (o : Option (List ExprTree)) (es slice : List ExprTree) → o ≡ Some es → slice ≡ es → 2 ≤ length slice → None ≡ one_tree (maybe_trees o)
several_trees o es slice is same h = sym (ap (λ x. one_tree (maybe_trees x)) is ∙ several es (subst (λ (xs : List ExprTree). 2 ≤ length xs) same h))
