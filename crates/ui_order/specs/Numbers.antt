-- A graph by numbers: the number of a path is its place in ascending order, and its links are the numbers of its
-- imports.
use Rattle.std.specs.Prelude.{◌≡◌, ◌⊎◌, ℕ, zero, suc, ◌<◌, ◌≤◌, Bool, true, false, nat_eq, List, [], ◌∷◌, ◌++◌, length, get_or, Vec, Option, Some, None, find}
use Rattle.std.specs.declared.alloc.Global.{Global}
use Rattle.std.specs.Ordering.{nat_cmp}
use Rattle.std.specs.List.{range_with_len}
use Rattle.std.specs.BTreeSet.{BTreeSet, contains}
use Rattle.std.proofs.lemmas.Bool.Decides.{Decides-eqb}
use Rattle.ui_order.specs.OrderFrom.{IsOrder, undone}
use Rattle.ui_order.specs.Steps.{has, is_ready, order_from, Leads}
use Rattle.ui_order.specs.declared.plan.Plan.{Plan}

abbrev pub Links : Type 0
Links = List (Vec ℕ Global)

-- the list at a place; past the end the empty one
abbrev pub linked : Links → ℕ → List ℕ
linked [] i = []
linked (v ∷ vs) zero = v.items
linked (v ∷ vs) (suc i) = linked vs i

-- the links are numbers of paths
abbrev pub AreLinked : Links → Type 0
AreLinked links = (i j : ℕ) → has nat_eq (linked links i) j ≡ true → j < length links

-- repeatedly the least number whose links are all taken
unfoldable pub number_order : Links → List ℕ
number_order links = order_from nat_eq (linked links) (length links) (range_with_len 0 (length links)) []

abbrev pub IsNumberOnCycle : Links → ℕ → Type 0
IsNumberOnCycle links i = Leads nat_eq (linked links) i i

-- the least number on a cycle
abbrev pub IsFirstOnCycle : Links → Option ℕ → Type 0
IsFirstOnCycle links None = (k : ℕ) → k < length links → IsNumberOnCycle links k → ⊥
IsFirstOnCycle links (Some i) = (i < length links) × IsNumberOnCycle links i × ((k : ℕ) → k < i → IsNumberOnCycle links k → ⊥)

-- the sizes that a plan has, and what its numbers are below
pub record AreSized (links : Links) (taken : List Bool) (at : List ℕ) (waiting : Links) (ready : BTreeSet ℕ) : Type 0 where
  pub taken_size : length taken ≡ length links
  pub at_size : length at ≡ length links
  pub waiting_size : length waiting ≡ length links
  pub within : (k : ℕ) → k < length links → get_or at k 0 ≤ length (linked links k)
  pub small_waiting : (j k : ℕ) → has nat_eq (linked waiting j) k ≡ true → k < length links
  pub small_ready : (k : ℕ) → contains nat_cmp ready k ≡ true → k < length links

-- What a plan knows after `order` was taken, where the numbers `left` are still to be looked at: each other number that
-- isn't taken is ready, or waits for a link that isn't taken.
pub record ArePlanned (links : Links) (order left : List ℕ) (taken : List Bool) (at : List ℕ) (waiting : Links) (ready : BTreeSet ℕ) : Type 0 where
  pub marks : (k : ℕ) → k < length links → get_or taken k false ≡ has nat_eq order k
  pub behind : (k i : ℕ) → k < length links → i < get_or at k 0 → has nat_eq order (get_or (linked links k) i 0) ≡ true
  pub sound : (k : ℕ) → contains nat_cmp ready k ≡ true → is_ready nat_eq (linked links) order k ≡ true
  pub waiters : (j k : ℕ) → has nat_eq order j ≡ false → has nat_eq (linked waiting j) k ≡ true → has nat_eq (linked links k) j ≡ true
  pub waits : (k : ℕ) → k < length links → has nat_eq order k ≡ false
      → (contains nat_cmp ready k ≡ true) ⊎ (((j : ℕ) × ((has nat_eq order j ≡ false) × (has nat_eq (linked waiting j) k ≡ true))) ⊎ (has nat_eq left k ≡ true))
  pub fresh : (k : ℕ) → has nat_eq left k ≡ true → has nat_eq order k ≡ false

abbrev pub IsSized : Links → Plan → Type 0
IsSized links p = AreSized links p.taken.items p.at.items p.waiting.items p.ready

abbrev pub IsPlan : Links → List ℕ → List ℕ → Plan → Type 0
IsPlan links order left p = ArePlanned links order left p.taken.items p.at.items p.waiting.items p.ready

-- the numbers of a graph, ascending
abbrev pub numbers : Links → List ℕ
numbers links = range_with_len 0 (length links)

-- each number of the order is new there, and its links stand before it
abbrev pub IsNumberOrder : Links → List ℕ → Type 0
IsNumberOrder links order = IsOrder nat_eq Decides-eqb (linked links) (numbers links) [] order

-- the least number whose links are all taken
abbrev pub next_number : Links → List ℕ → Option ℕ
next_number links order = find (is_ready nat_eq (linked links) order) (numbers links)

-- the number is taken next; then these are to be looked at
pub record IsTurn (links : Links) (order : List ℕ) (p : Plan) (turn : ℕ × Vec ℕ Global) : Type 0 where
  pub next : next_number links order ≡ Some turn.0
  pub small_woken : (k : ℕ) → has nat_eq turn.1.items k ≡ true → k < length links
  pub sized : IsSized links p
  pub planned : IsPlan links (order ++ turn.0 ∷ []) turn.1.items p

-- how many numbers are not taken
abbrev pub untaken : Links → List ℕ → ℕ
untaken links order = undone nat_eq Decides-eqb (linked links) (numbers links) order

-- taking goes on from the order to the whole one
pub record Builds (links : Links) (order : List ℕ) : Type 0 where
  pub steps : ℕ
  pub enough : untaken links order ≤ steps
  pub whole : number_order links ≡ order_from nat_eq (linked links) steps (numbers links) order
