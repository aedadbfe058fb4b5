-- Items that are found one after another.
use Rattle.std.proofs.Common.{◌≡◌, ℕ, suc, ◌+◌, ◌<◌, ◌≤◌, List, [], ◌∷◌, ◌++◌, map, drop, length}
use Rattle.std.proofs.Common.{get_or, refl, sym, ap, ◌∙◌, append_assoc}
use Rattle.std.specs.List.{flat_map}
use Rattle.std.proofs.lemmas.List.{drop_more, drop_all, append-nil}
use Rattle.std.proofs.lemmas.Bool.{eq-eqb, ne_eqb}
use Rattle.ui_base.proofs.StepLemmas.{turn, no_turn, pushed}
use Rattle.ui_tree.specs.declared.part.Placed.{Placed}
use Rattle.ui_tree.specs.declared.expr.ExprTree.{ExprTree}
use Rattle.ui_tree.specs.declared.stmt.ValueSpec.{ValueSpec}
use Rattle.ui_tree.specs.declared.decl.FileTree.{FileTree}
use Rattle.ui_tree.specs.Tree.{MaybeType}
use Rattle.ui_tree.specs.Stmt.{ValueGroup}
use Rattle.ui_tree.specs.View.{trees, view}
use Rattle.ui_tree.specs.StmtView.{decl_view, file_view, value_view}
use Rattle.ui_collect.specs.Items as shown
use Rattle.std.specs.Prelude.{Bool, nat_eq, if◌then◌else◌}
use Rattle.ui_collect.specs.Items.{count, first_spot, miscounted, const_items_with}
use Rattle.ui_collect.specs.Items.{item, valued, valued_items, repeated, const_items, group_items}
use Rattle.ui_collect.specs.Items.{decl_items, items_from}
use Rattle.ui_collect.specs.Views.{Adds, item_view}
use Rattle.ui_collect.specs.declared.items.Item.{Item}

-- ---- some, and then some more

pub added_twice : (a b c : List Item) (x y : List shown.Item) → Adds a b x → Adds b c y → Adds a c
    (x ++ y)
added_twice a b c x y h k = k ∙ ap (λ z. z ++ y) h ∙ append_assoc (map item_view a) x y

pub added_none : (a : List Item) → Adds a a []
added_none a = sym (append-nil (map item_view a))

pub one_more : (before now : List Item) (d : Item) → now ≡ before ++ d ∷ []
    → Adds before now (item_view d ∷ [])
one_more before now d h = pushed item_view before now d h

-- ---- loops

-- Some are found, and `left` is what the items from place i on give.
pub record Found (before now : List Item) (all left : List shown.Item) : Type 0 where
  pub rest : map item_view before ++ all ≡ map item_view now ++ left

pub Found-start : (before : List Item) (all : List shown.Item) → Found before before all all
Found-start before all = record { rest = refl }

pub Found-more : (before now next : List Item) (all left here more : List shown.Item) → Found
    before now all left → left ≡ here ++ more → Adds now next here → Found before next all more
Found-more before now next all left here more f e h = record {
  rest = f.rest ∙ ap (λ z. map item_view now ++ z) e
      ∙ sym (append_assoc (map item_view now) here more)
      ∙ ap (λ z. z ++ more) (sym h);
}

pub Found-end : (before now : List Item) (all left : List shown.Item) → Found before now all left
    → left ≡ [] → Adds before now all
Found-end before now all left f e = sym (f.rest ∙ ap (λ z. map item_view now ++ z) e ∙ append-nil
    (map item_view now))

-- what is left of a list, each of whose items gives some
module _ {X A : Type 0} (f : A → List shown.Item) (v : X → A) (xs : List X) where
  pub each_left : (i : ℕ) (x : X) → i < length xs → x ≡ get_or xs i x → flat_map f (map v (drop i
      xs)) ≡ f (v x) ++ flat_map f (map v (drop (i + 1) xs))
  each_left i x h is = ap (flat_map f) (turn v xs i x h is)

  pub none_left : (i : ℕ) → length xs ≤ i → flat_map f (map v (drop i xs)) ≡ []
  none_left i h = ap (flat_map f) (no_turn v xs i h)

-- what is left of a list, each of whose items gives one
module _ {X : Type 0} (f : X → shown.Item) (xs : List X) where
  pub one_left : (i : ℕ) (x : X) → i < length xs → x ≡ get_or xs i x → map f (drop i xs) ≡ (f x ∷
      []) ++ map f (drop (i + 1) xs)
  one_left i x h is = turn f xs i x h is

  pub no_one_left : (i : ℕ) → length xs ≤ i → map f (drop i xs) ≡ []
  no_one_left i h = no_turn f xs i h

-- names and expressions side by side
module _ (k iota : ℕ) (t : MaybeType) (ns : List Placed) (es : List ExprTree) where
  pub pair_left : (i : ℕ) (n : Placed) (e : ExprTree) → i < length ns → i < length es → n ≡ get_or
      ns i n → e ≡ get_or es i e
      → valued_items k iota t (drop i ns) (trees (map view (drop i es))) ≡ (item k (valued iota t
      (view e)) n ∷ []) ++ valued_items k iota t (drop (i + 1) ns) (trees (map view (drop (i +
      1) es)))
  pair_left i n e h j is es_is =
      ap (λ ms. valued_items k iota t ms (trees (map view (drop i es)))) (drop_more ns i n h ∙ ap
      (λ m. m ∷ drop (i + 1) ns) (sym is))
      ∙ ap (λ bs. valued_items k iota t (n ∷ drop (i + 1) ns) (trees bs)) (turn view es i e j es_is)

  pub no_pair_left : (i : ℕ) → length ns ≤ i → valued_items k iota t (drop i ns) (trees (map view
      (drop i es))) ≡ []
  no_pair_left i h = ap (λ ms. valued_items k iota t ms (trees (map view (drop i es)))) (drop_all
      i ns h)

count_trees : (es : List ExprTree) → count (trees (map view es)) ≡ length es
count_trees [] = refl
count_trees (e ∷ es) = ap suc (count_trees es)

module _ (k iota : ℕ) (t : MaybeType) (ns : List Placed) (es : List ExprTree) where
  abbrev by_test : Bool → List shown.Item
  by_test b = if b then valued_items k iota t ns (trees (map view es))
      else map (item k (miscounted iota (first_spot ns) t (trees (map view es)))) ns

  pub counted : length ns ≡ length es
      → const_items_with k iota t ns (trees (map view es)) ≡ valued_items k iota t ns (trees (map
      view es))
  counted h = ap by_test (ap (λ n. nat_eq (length ns) n) (count_trees es) ∙ eq-eqb (length ns)
      (length es) h)

  pub uncounted : (length ns ≡ length es → ⊥)
      → const_items_with k iota t ns (trees (map view es))
      ≡ map (item k (miscounted iota (first_spot ns) t (trees (map view es)))) ns
  uncounted h = ap by_test (ap (λ n. nat_eq (length ns) n) (count_trees es) ∙ ne_eqb (length ns)
      (length es) h)

-- specifications of constants
module _ (k : ℕ) (vs : List ValueSpec) where
  pub spec_left : (i : ℕ) (last now : ValueGroup) (v : ValueSpec) → i < length vs → v ≡ get_or vs
      i v → now ≡ repeated last (value_view v) (value_view v).values
      → group_items k i last (map value_view (drop i vs)) ≡ const_items k i v.names now ++
      group_items k (i + 1) now (map value_view (drop (i + 1) vs))
  spec_left i last now v h is e =
      ap (group_items k i last) (turn value_view vs i v h is)
      ∙ ap (λ u. const_items k i v.names u ++ group_items k (i + 1) u (map value_view (drop (i +
      1) vs))) (sym e)

  pub no_spec_left : (i : ℕ) (last : ValueGroup) → length vs ≤ i → group_items k i last (map
      value_view (drop i vs)) ≡ []
  no_spec_left i last h = ap (group_items k i last) (no_turn value_view vs i h)

-- files
module _ (fs : List FileTree) where
  pub file_left : (i : ℕ) (f : FileTree) → i < length fs → f ≡ get_or fs i f → items_from i (map
      file_view (drop i fs)) ≡ flat_map (decl_items i) (map decl_view f.decls) ++ items_from (i +
      1) (map file_view (drop (i + 1) fs))
  file_left i f h is = ap (items_from i) (turn file_view fs i f h is)

  pub no_file_left : (i : ℕ) → length fs ≤ i → items_from i (map file_view (drop i fs)) ≡ []
  no_file_left i h = ap (items_from i) (no_turn file_view fs i h)

pub ruleset adding = (
  added_twice,
  added_none,
  Found-start,
  Found-more,
  Found-end,
  each_left,
  none_left,
  one_left,
  no_one_left,
  pair_left,
  no_pair_left,
  spec_left,
  no_spec_left,
  file_left,
  no_file_left,
)
