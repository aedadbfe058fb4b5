-- Names that are found one after another.
use Rattle.std.proofs.Common.{◌≡◌, ℕ, ◌+◌, ◌<◌, ◌≤◌, List, [], ◌∷◌, ◌++◌, map, drop, length}
use Rattle.std.proofs.Common.{get_or, refl, sym, ap, ◌∙◌}
use Rattle.std.specs.List.{flat_map, fold}
use Rattle.std.proofs.lemmas.List.Sums.{fold-append}
use Rattle.ui_base.proofs.StepLemmas.{turn, no_turn}
use Rattle.ui_tree.specs.declared.part.Group.{Group}
use Rattle.ui_tree.specs.declared.expr.TypeExpr.{TypeExpr}
use Rattle.ui_tree.specs.declared.expr.ExprTree.{ExprTree}
use Rattle.ui_tree.specs.View.{group_with, groups, kept, trees, type_view, view}
use Rattle.ui_collect.specs.Names.{Names, with_name}
use Rattle.ui_used.specs.Mentions.{in_value, in_values, in_type, in_groups}

-- ---- some, and then some more

pub found_twice : (a b c x y : Names) → b ≡ fold with_name a x → c ≡ fold with_name b y
    → c ≡ fold with_name a (x ++ y)
found_twice a b c x y h k = k ∙ ap (λ z. fold with_name z y) h ∙ sym (fold-append with_name a x y)

-- some are found, and `left` is what the rest of a list gives
pub record Found (before now all left : Names) : Type 0 where
  pub rest : fold with_name before all ≡ fold with_name now left

pub Found-start : (before all : Names) → Found before before all all
Found-start before all = record { rest = refl }

pub Found-more : (before now next all left here more : Names) → Found before now all left
    → left ≡ here ++ more → next ≡ fold with_name now here → Found before next all more
Found-more before now next all left here more f e h = record {
  rest = f.rest ∙ ap (fold with_name now) e ∙ fold-append with_name now here more
      ∙ ap (λ z. fold with_name z more) (sym h);
}

pub Found-end : (before now all left : Names) → Found before now all left → left ≡ []
    → now ≡ fold with_name before all
Found-end before now all left f e = sym (f.rest ∙ ap (fold with_name now) e)

-- what is left of a list, each of whose items gives some
module _ {X A : Type 0} (f : A → Names) (v : X → A) (xs : List X) where
  pub each_left : (i : ℕ) (x : X) → i < length xs → x ≡ get_or xs i x → flat_map f (map v (drop i
      xs)) ≡ f (v x) ++ flat_map f (map v (drop (i + 1) xs))
  each_left i x h is = ap (flat_map f) (turn v xs i x h is)

  pub none_left : (i : ℕ) → length xs ≤ i → flat_map f (map v (drop i xs)) ≡ []
  none_left i h = ap (flat_map f) (no_turn v xs i h)

pub group_left : (gs : List (Group TypeExpr)) (i : ℕ) (g : Group TypeExpr) → i < length gs
    → g ≡ get_or gs i g
    → in_groups (groups kept (map (group_with type_view) (drop i gs)))
    ≡ in_type (type_view g.of) ++ in_groups (groups kept (map (group_with type_view) (drop (i + 1)
    gs)))
group_left gs i g h is = ap (λ l. in_groups (groups kept l)) (turn (group_with type_view) gs i g h
    is)

pub no_group_left : (gs : List (Group TypeExpr)) (i : ℕ) → length gs ≤ i
    → in_groups (groups kept (map (group_with type_view) (drop i gs))) ≡ []
no_group_left gs i h = ap (λ l. in_groups (groups kept l)) (no_turn (group_with type_view) gs i h)

pub tree_left : (es : List ExprTree) (i : ℕ) (e : ExprTree) → i < length es → e ≡ get_or es i e
    → in_values (trees (map view (drop i es)))
    ≡ in_value (view e) ++ in_values (trees (map view (drop (i + 1) es)))
tree_left es i e h is = ap (λ l. in_values (trees l)) (turn view es i e h is)

pub no_tree_left : (es : List ExprTree) (i : ℕ) → length es ≤ i → in_values (trees (map view (drop
    i es))) ≡ []
no_tree_left es i h = ap (λ l. in_values (trees l)) (no_turn view es i h)

pub ruleset finding = (
  found_twice,
  Found-start,
  Found-more,
  Found-end,
  each_left,
  none_left,
  group_left,
  no_group_left,
  tree_left,
  no_tree_left,
)
