-- Links lead to nodes.
use Rattle.std.proofs.Common.{◌≡◌, ℕ, zero, suc, ◌+◌, ◌*◌, ◌<◌, ◌≤◌, Bool, true, false, not, ◌&&◌}
use Rattle.std.proofs.Common.{cond, List, [], ◌∷◌, ◌++◌}
use Rattle.std.proofs.Common.{map, length, get_or, Option, Some, None, refl, sym, ap, ◌∙◌, subst}
use Rattle.std.proofs.Common.{arith, rules}
use Rattle.std.specs.Prelude.{nat_eq, bytes_eq, Vec, IfSome}
use Rattle.std.specs.declared.alloc.Global.{Global}
use Rattle.std.proofs.Common.{◌⊎◌, inl, inr}
use Rattle.std.proofs.lemmas.Bool.{or_cases, eqb-true}
use Rattle.std.proofs.lemmas.List.{length-map}
use Rattle.ui_tree.specs.Tree as tree
use Rattle.ui_tree.specs.Tree.{TypeTree, Groups, MaybeType, Tree, Trees}
use Rattle.ui_collect.specs.Names.{is_blank, is_init}
use Rattle.ui_collect.specs.Items.{What, aliased, made_as, varied, valued, miscounted, called, Item}
use Rattle.ui_collect.specs.Views.{item_view}
use Rattle.ui_collect.specs.declared.items.Item as code
use Rattle.ui_order.specs.Steps.{has}
use Rattle.ui_order.specs.Numbers.{Links, linked, AreLinked}
use Rattle.ui_needs.specs.declared.numbers.Nodes.{Nodes}
use Rattle.ui_needs.specs.Needs.{Numbers, meaning_node, under_node, head_needs, value_needs}
use Rattle.ui_needs.specs.Needs.{values_needs}
use Rattle.ui_needs.specs.Needs.{type_needs, group_needs, result_needs, maybe_head}
use Rattle.ui_needs.specs.Links.{nodes_at, no_numbers, with_number, numbers_from, numbers_of}
use Rattle.ui_needs.specs.Links.{meaning_needs, under_needs, links_from, links_of}
use Rattle.ui_needs.specs.Cycles.{links_at}
use Rattle.ui_needs.specs.Views.{lists}

abbrev pub AreBelow : ℕ → List ℕ → Type 0
AreBelow m [] = Unit {0}
AreBelow m (x ∷ xs) = (x < m) × AreBelow m xs

below-append : (m : ℕ) (xs ys : List ℕ) → AreBelow m xs → AreBelow m ys → AreBelow m (xs ++ ys)
below-append m [] ys h k = k
below-append m (x ∷ xs) ys h k = (h.0, below-append m xs ys h.1 k)

abbrev IsBelow : ℕ → Option Nodes → Type 0
IsBelow m None = Unit {0}
IsBelow m (Some p) = (p.meaning < m) × (p.under < m)

abbrev AreNodes : ℕ → Numbers → Type 0
AreNodes m at = (n : List ℕ) → IsBelow m (at n)

meaning_below : (m : ℕ) (o : Option Nodes) → IsBelow m o → AreBelow m (meaning_node o)
meaning_below m None h = tt
meaning_below m (Some p) h = (h.0, tt)

under_below : (m : ℕ) (o : Option Nodes) → IsBelow m o → AreBelow m (under_node o)
under_below m None h = tt
under_below m (Some p) h = (h.1, tt)

module _ (m : ℕ) (at : Numbers) (all : AreNodes m at) where
  head_below : (t : TypeTree) → AreBelow m (head_needs at t)
  head_below (tree.named p None given) = under_below m (at p.text) (all p.text)
  head_below (tree.named p (Some q) given) = tt
  head_below (tree.parenthesized s t) = head_below t
  head_below (tree.pointer s t) = tt
  head_below (tree.slice s t) = tt
  head_below (tree.array s e t) = tt
  head_below (tree.counted s t) = tt
  head_below (tree.mapping s k t) = tt
  head_below (tree.func s ps r) = tt
  head_below (tree.listed s gs) = tt
  head_below (tree.struct s fs) = tt
  head_below (tree.interface s es) = tt
  head_below (tree.method p gs r) = tt
  head_below (tree.union s ts) = tt
  head_below (tree.tilde s t) = tt

  value_below : (e : Tree) → AreBelow m (value_needs at e)
  value_below (tree.literal s k v) = tt
  value_below (tree.name p) = below-append m (meaning_node (at p.text)) (under_node (at p.text))
      (meaning_below m (at p.text) (all p.text)) (under_below m (at p.text) (all p.text))
  value_below (tree.paren s e) = value_below e
  value_below (tree.selector s e n) = value_below e
  value_below (tree.unary s op e) = value_below e
  value_below (tree.binary s op l r) = below-append m (value_needs at l) (value_needs at r)
      (value_below l) (value_below r)
  value_below (tree.convert s t e) = tt
  value_below (tree.composite s t es) = tt
  value_below (tree.elided s es) = tt
  value_below (tree.keyed s k v) = tt
  value_below (tree.instance s e ts) = tt
  value_below (tree.assert s e t) = tt
  value_below (tree.index s e i) = tt
  value_below (tree.sliced s e l h x) = tt
  value_below (tree.call s e es b) = tt
  value_below (tree.type_arg t) = tt

  values_below : (es : Trees) → AreBelow m (values_needs at es)
  values_below tree.trees_end = tt
  values_below (tree.tree_and e es) = below-append m (value_needs at e) (values_needs at es)
      (value_below e) (values_below es)

  mutual
    type_below : (t : TypeTree) → AreBelow m (type_needs at t)
    type_below (tree.named p None given) = meaning_below m (at p.text) (all p.text)
    type_below (tree.named p (Some q) given) = tt
    type_below (tree.parenthesized s t) = type_below t
    type_below (tree.pointer s t) = type_below t
    type_below (tree.slice s t) = type_below t
    type_below (tree.array s e t) = below-append m (value_needs at e) (type_needs at t)
        (value_below e) (type_below t)
    type_below (tree.counted s t) = type_below t
    type_below (tree.mapping s k t) = below-append m (type_needs at k) (type_needs at t)
        (type_below k) (type_below t)
    type_below (tree.func s ps r) = below-append m (group_needs at ps) (result_needs at r)
        (group_below ps) (result_below r)
    type_below (tree.listed s gs) = group_below gs
    type_below (tree.struct s fs) = group_below fs
    type_below (tree.interface s es) = tt
    type_below (tree.method p gs r) = tt
    type_below (tree.union s ts) = tt
    type_below (tree.tilde s t) = tt

    group_below : (gs : Groups) → AreBelow m (group_needs at gs)
    group_below tree.groups_end = tt
    group_below (tree.group_and ns t gs) = below-append m (type_needs at t) (group_needs at gs)
        (type_below t) (group_below gs)

    result_below : (r : MaybeType) → AreBelow m (result_needs at r)
    result_below tree.no_type = tt
    result_below (tree.given_type t) = type_below t

  maybe_below : (t : MaybeType) → AreBelow m (maybe_head at t)
  maybe_below tree.no_type = tt
  maybe_below (tree.given_type t) = head_below t

  whole_below : (t : MaybeType) → AreBelow m (result_needs at t ++ maybe_head at t)
  whole_below t = below-append m (result_needs at t) (maybe_head at t) (result_below t)
      (maybe_below t)

  needs_below : (w : What) → AreBelow m (meaning_needs at w)
  needs_below (aliased t) = type_below t
  needs_below (made_as t) = tt
  needs_below (varied t) = result_below t
  needs_below (valued iota t e) = below-append m (result_needs at t ++ maybe_head at t)
      (value_needs at e) (whole_below t) (value_below e)
  needs_below (miscounted iota s t es) = below-append m (result_needs at t ++ maybe_head at t)
      (values_needs at es) (whole_below t) (values_below es)
  needs_below (called ps r) = below-append m (group_needs at ps) (result_needs at r) (group_below
      ps) (result_below r)

  unders_below : (k : ℕ) (w : What) → 2 * k < m → AreBelow m (under_needs at k w)
  unders_below k (aliased t) h = (h, head_below t)
  unders_below k (made_as t) h = below-append m (type_needs at t) (head_needs at t) (type_below t)
      (head_below t)
  unders_below k (varied t) h = (h, maybe_below t)
  unders_below k (valued iota t e) h = (h, tt)
  unders_below k (miscounted iota s t es) h = (h, tt)
  unders_below k (called ps r) h = (h, tt)

  abbrev EachBelow : List (List ℕ) → Type 0
  EachBelow [] = Unit {0}
  EachBelow (xs ∷ xss) = AreBelow m xs × EachBelow xss

  links_below : (k : ℕ) (ds : List Item) → 2 * (k + length ds) ≤ m → EachBelow (links_from at k ds)
  links_below k [] h = tt
  links_below k (d ∷ ds) h = (
    needs_below d.what,
    (
      unders_below k d.what (omega arith),
      links_below (k + 1) ds (omega arith),
    ),
  )

  link_below : (xss : List (List ℕ)) (i : ℕ) → EachBelow xss → AreBelow m (links_at xss i)
  link_below [] i h = tt
  link_below (xs ∷ xss) zero h = h.0
  link_below (xs ∷ xss) (suc i) h = link_below xss i h.1

-- ---- numbers

number_below : (m : ℕ) (b : Bool) (k : ℕ) (o : Option Nodes) → 2 * k + 1 < m → IsBelow m o →
    IsBelow m (cond b (Some (nodes_at k)) o)
number_below m true k o h below = (omega arith, h)
number_below m false k o h below = below

numbers_below : (m : ℕ) (at : Numbers) (k : ℕ) (ds : List Item) → 2 * (k + length ds) ≤ m →
    AreNodes m at → AreNodes m (numbers_from at k ds)
numbers_below m at k [] h all = all
numbers_below m at k (d ∷ ds) h all =
    numbers_below m (with_number at k d.name.text) (k + 1) ds (omega arith)
    (λ n. number_below m (not (is_blank d.name.text) && not (is_init d.name.text) && bytes_eq
    n d.name.text) k (at n) (omega arith) (all n))

pub links_length : (at : Numbers) (k : ℕ) (ds : List Item) → length (links_from at k ds) ≡ 2 *
    length ds
links_length at k [] = refl
links_length at k (d ∷ ds) = let e : length (links_from at (k + 1) ds) ≡ 2 * length ds =
    links_length at (k + 1) ds in omega (arith, e)

-- ---- lists in memory

pub linked_lists : (v : Links) (i : ℕ) → linked v i ≡ links_at (lists v) i
linked_lists [] i = refl
linked_lists (w ∷ v) zero = refl
linked_lists (w ∷ v) (suc i) = linked_lists v i

lists_length : (v : Links) → length (lists v) ≡ length v
lists_length [] = refl
lists_length (w ∷ v) = ap suc (lists_length v)

has_below : (m : ℕ) (xs : List ℕ) (j : ℕ) → AreBelow m xs → has nat_eq xs j ≡ true → j < m
has_below m [] j h e = absurd cc
has_below m (x ∷ xs) j h e =
    elim (or_cases (nat_eq j x) (has nat_eq xs j) e) [
      | inl p ↦ (let P : ℕ → Type 0 = λ k. k < m in subst P (sym (eqb-true j x p)) h.0)
      | inr q ↦ has_below m xs j h.1 q
    ]

pub links_are_linked : (v : Links) (ds : List Item) → lists v ≡ links_of ds → AreLinked v
unfolding links_of numbers_of
links_are_linked v ds e i j h =
    let m : ℕ = 2 * length ds in
    let at : Numbers = numbers_of ds in
    let all : AreNodes m at = numbers_below m no_numbers 0 ds (omega arith) (λ n. tt) in
    let each : EachBelow m at all (links_of ds) = links_below m at all 0 ds (omega arith) in
    let same : linked v i ≡ links_at (links_of ds) i = linked_lists v i ∙ ap (λ l. links_at l i) e
    in
    let small : j < m =
    has_below m (links_at (links_of ds) i) j (link_below m at all (links_of ds) i each)
    (sym (ap (λ xs. has nat_eq xs j) same) ∙ h) in
    let size : length v ≡ m = sym (lists_length v) ∙ ap length e ∙ links_length at 0 ds in
    let P : ℕ → Type 0 = λ k. j < k in
    subst P (sym size) small

pub links_are_two : (v : Links) (ds : List code.Item) → lists v ≡ links_of (map item_view ds)
    → length v ≡ 2 * length ds
unfolding links_of
links_are_two v ds e =
    sym (lists_length v) ∙ ap length e ∙ links_length (numbers_of (map item_view ds)) 0 (map
    item_view ds) ∙ ap (λ n. 2 * n) (length-map ds item_view)

pub ruleset ranging = (links_are_linked, links_are_two)
