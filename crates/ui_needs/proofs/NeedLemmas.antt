-- Needs that are found one after another.
use Rattle.std.proofs.Common.{◌≡◌, ℕ, ◌+◌, ◌<◌, ◌≤◌, List, [], ◌∷◌, ◌++◌, map, drop, length}
use Rattle.std.proofs.Common.{get_or, refl, sym, ap, ◌∙◌, append_assoc}
use Rattle.std.proofs.lemmas.List.{drop_more, drop_all, append-nil}
use Rattle.ui_base.proofs.StepLemmas.{turn, no_turn}
use Rattle.ui_tree.specs.declared.part.Group.{Group}
use Rattle.ui_tree.specs.declared.expr.TypeExpr.{TypeExpr}
use Rattle.ui_tree.specs.declared.expr.ExprTree.{ExprTree}
use Rattle.ui_tree.specs.View.{group_with, groups, kept, trees, type_view, view}
use Rattle.ui_needs.specs.Needs.{Numbers, type_needs, group_needs, value_needs, values_needs}

-- ---- some, and then some more

module _ {X : Type 0} where
  pub added_twice : (a b c x y : List X) → b ≡ a ++ x → c ≡ b ++ y → c ≡ a ++ (x ++ y)
  added_twice a b c x y h k = k ∙ ap (λ z. z ++ y) h ∙ append_assoc a x y

  pub added_none : (a : List X) → a ≡ a ++ []
  added_none a = sym (append-nil a)

  pub added_first : (a b c : List X) (x : X) (y : List X) → b ≡ a ++ x ∷ [] → c ≡ b ++ y
      → c ≡ a ++ x ∷ y
  added_first a b c x y h k = k ∙ ap (λ z. z ++ y) h ∙ append_assoc a (x ∷ []) y

  -- some are found, and `left` is what the rest of a list gives
  pub record Found (before now all left : List X) : Type 0 where
    pub rest : before ++ all ≡ now ++ left

  pub Found-start : (before all : List X) → Found before before all all
  Found-start before all = record { rest = refl }

  pub Found-more : (before now next all left here more : List X) → Found before now all left
      → left ≡ here ++ more → next ≡ now ++ here → Found before next all more
  Found-more before now next all left here more f e h = record {
    rest = f.rest ∙ ap (λ z. now ++ z) e ∙ sym (append_assoc now here more)
        ∙ ap (λ z. z ++ more) (sym h);
  }

  pub Found-end : (before now all left : List X) → Found before now all left → left ≡ []
      → now ≡ before ++ all
  Found-end before now all left f e = sym (f.rest ∙ ap (λ z. now ++ z) e ∙ append-nil now)

module _ (at : Numbers) where
  pub group_left : (gs : List (Group TypeExpr)) (i : ℕ) (g : Group TypeExpr) → i < length gs
      → g ≡ get_or gs i g
      → group_needs at (groups kept (map (group_with type_view) (drop i gs)))
      ≡ type_needs at (type_view g.of) ++ group_needs at (groups kept (map (group_with type_view)
      (drop (i + 1) gs)))
  group_left gs i g h is = ap (λ l. group_needs at (groups kept l)) (turn (group_with type_view)
      gs i g h is)

  pub no_group_left : (gs : List (Group TypeExpr)) (i : ℕ) → length gs ≤ i
      → group_needs at (groups kept (map (group_with type_view) (drop i gs))) ≡ []
  no_group_left gs i h = ap (λ l. group_needs at (groups kept l)) (no_turn (group_with type_view)
      gs i h)

  pub tree_left : (es : List ExprTree) (i : ℕ) (e : ExprTree) → i < length es → e ≡ get_or es i e
      → values_needs at (trees (map view (drop i es)))
      ≡ value_needs at (view e) ++ values_needs at (trees (map view (drop (i + 1) es)))
  tree_left es i e h is = ap (λ l. values_needs at (trees l)) (turn view es i e h is)

  pub no_tree_left : (es : List ExprTree) (i : ℕ) → length es ≤ i
      → values_needs at (trees (map view (drop i es))) ≡ []
  no_tree_left es i h = ap (λ l. values_needs at (trees l)) (no_turn view es i h)

pub ruleset adding = (
  added_twice,
  added_none,
  added_first,
  append_assoc,
  Found-start,
  Found-more,
  Found-end,
  group_left,
  no_group_left,
  tree_left,
  no_tree_left,
)
