-- From the tables to what is arranged.
use Rattle.std.specs.Prelude.{◌≡◌, ℕ, ◌<◌, Bool, true, false, ◌&&◌, T, nat_eq, List, [], ◌∷◌, map, length, Some, None, refl}
use Rattle.std.proofs.Common.{◌∙◌, ap, sym, subst}
use Rattle.std.specs.declared.cmp.Ordering.{Ordering}
use Rattle.std.specs.declared.cmp.Ordering.TheVariants.{Less, Equal, Greater}
use Rattle.std.specs.Ordering.{nat_cmp, is_lt}
use Rattle.std.specs.List.{AllByRecursion}
use Rattle.std.specs.List.Sorted.{IsStrictlySortedBy}
use Rattle.std.specs.Cmp.Lexicographic.{slice_cmp}
use Rattle.std.specs.FinMap.{entries, keys, entries_sorted}
use Rattle.std.specs.FinMap.Entries.{is_sorted, below_all}
use Rattle.std.proofs.lemmas.Bool.Decides.{Decides-eqb}
use Rattle.ui_order.specs.Steps.{has}
use Rattle.ui_order.specs.StepLaws.{split}
use Rattle.ui_order.specs.OrderFrom.{order_before, order_from-IsOrder}
use Rattle.ui_order.specs.Found.{Text, Graph}
use Rattle.ui_order.specs.Order.{build_order, arranged, cycle_or, cycle, paths}
use Rattle.ui_order.specs.Numbers.{Links, linked, numbers, number_order, AreLinked, IsFirstOnCycle}
use Rattle.ui_order.specs.Numbered.{path_at, AreLinksOf}
use Rattle.ui_order.proofs.NumberLemmas.{numbers-has}
use Rattle.ui_order.proofs.BridgeLemmas.{all_linked, links_size, build_order-numbers, least_on_cycle-numbers}

left_of : (a b : Bool) → T (a && b) → T a
left_of true b h = tt
left_of false b h = h

right_of : (a b : Bool) → T (a && b) → T b
right_of true b h = h
right_of false b h = absurd h

is_less : (o : Ordering) → T (is_lt o) → o ≡ Less
is_less Less h = refl
is_less Equal h = absurd h
is_less Greater h = absurd h

below_keys : {X : Type 0} (x : Text) (es : List (Text × X)) → T (below_all (slice_cmp nat_cmp) x es) → AllByRecursion (λ y. slice_cmp nat_cmp x y ≡ Less) (map (λ e. e.0) es)
below_keys x [] h = tt
below_keys x (e ∷ es) h = (is_less (slice_cmp nat_cmp x e.0) (left_of (is_lt (slice_cmp nat_cmp x e.0)) (below_all (slice_cmp nat_cmp) x es) h), below_keys x es (right_of (is_lt (slice_cmp nat_cmp x e.0)) (below_all (slice_cmp nat_cmp) x es) h))

sorted_entries : {X : Type 0} (es : List (Text × X)) → T (is_sorted (slice_cmp nat_cmp) es) → IsStrictlySortedBy (slice_cmp nat_cmp) (map (λ e. e.0) es)
unfolding IsStrictlySortedBy
sorted_entries [] h = tt
sorted_entries (e ∷ es) h = (below_keys e.0 es (left_of (below_all (slice_cmp nat_cmp) e.0 es) (is_sorted (slice_cmp nat_cmp) es) h), sorted_entries es (right_of (below_all (slice_cmp nat_cmp) e.0 es) (is_sorted (slice_cmp nat_cmp) es) h))

pub sorted_graph : (graph : Graph) → IsStrictlySortedBy (slice_cmp nat_cmp) (keys graph)
sorted_graph graph = sorted_entries (entries graph) (entries_sorted graph)

pub order_small : (links : Links) (k : ℕ) → has nat_eq (number_order links) k ≡ true → k < length links
unfolding number_order
order_small links k h =
    let parts = split nat_eq Decides-eqb (number_order links) k h in
    let order = order_from-IsOrder nat_eq Decides-eqb (linked links) (numbers links) (length links) [] tt in
    numbers-has (length links) k (order_before nat_eq Decides-eqb (linked links) (numbers links) (number_order links) parts.0 k parts.1.0 order parts.1.1).key

module _ (graph : Graph) (paths' : List Text) (named : paths' ≡ keys graph) (links : Links) (a : AreLinksOf graph paths' paths' links) where
  of_keys : AreLinksOf graph (keys graph) (keys graph) links
  of_keys = subst (λ xs. AreLinksOf graph xs xs links) named a

  pub linked_slice : (slice : Links) → slice ≡ links → AreLinked slice
  linked_slice slice e = subst (λ xs. AreLinked xs) (sym e) (all_linked graph links (sorted_graph graph) of_keys)

  pub count_named : length links ≡ length paths'
  count_named = links_size graph paths' paths' links a

  pub cycle_is : (slice : Links) (first : ℕ) (path : Text) → slice ≡ links → IsFirstOnCycle slice (Some first) → path ≡ path_at paths' first → cycle path ≡ arranged graph
  unfolding arranged
  cycle_is slice first path e f p =
      let least = least_on_cycle-numbers graph links (sorted_graph graph) of_keys (Some first) (subst (λ xs. IsFirstOnCycle xs (Some first)) e f) in
      ap cycle (p ∙ ap (λ xs. path_at xs first) named) ∙ ap (cycle_or (build_order graph)) (sym least)

  pub paths_are : (slice : Links) (order : List ℕ) (found : List Text) → slice ≡ links → IsFirstOnCycle slice None → order ≡ number_order links → found ≡ map (path_at paths') order → paths found ≡ arranged graph
  unfolding arranged
  paths_are slice order found e f o m =
      let least = least_on_cycle-numbers graph links (sorted_graph graph) of_keys None (subst (λ xs. IsFirstOnCycle xs None) e f) in
      let built = build_order-numbers graph links (sorted_graph graph) of_keys in
      ap paths (m ∙ ap (map (path_at paths')) o ∙ ap (λ xs. map (path_at xs) (number_order links)) named ∙ sym built) ∙ ap (cycle_or (build_order graph)) (sym least)
