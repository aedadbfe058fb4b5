-- Strongly connected components of a graph by numbers, found by one walk. H. N. Gabow, "Path-based depth-first search for
-- strong and biconnected components", 2000.
use Rattle.std.specs.Prelude.{◌≡◌, ◌⊎◌, ◌↔◌, ℕ, ◌+◌, ◌-◌, ◌<◌, ◌≤◌, Bool, true, false, nat_eq, List, [], ◌∷◌, ◌++◌, length, get_or, set}
use Rattle.ui_order.specs.Steps.{has, Leads}
use Rattle.ui_order.specs.Numbers.{Links, linked, IsNumberOnCycle}
use Rattle.ui_order.specs.declared.cycle.Walk.{Walk}
use Rattle.ui_order.specs.declared.cycle.Place.{Place}
use Rattle.ui_order.specs.declared.cycle.Place.TheVariants.{Unseen, OnPath, Done}

-- where a number is
abbrev pub place_in : List Place → ℕ → Place
place_in places k = get_or places k Unseen

abbrev pub is_seen : Place → Bool
is_seen Unseen = false
is_seen (OnPath i) = true
is_seen (Done b) = true

abbrev pub is_done : Place → Bool
is_done Unseen = false
is_done (OnPath i) = false
is_done (Done b) = true

-- a number is another, or its links lead there
abbrev pub Reaches : Links → ℕ → ℕ → Type 0
Reaches links p q = (p ≡ q) ⊎ Leads nat_eq (linked links) p q

-- each is less than those after it
abbrev pub IsRising : List ℕ → Type 0
IsRising xs = (i j : ℕ) → i < j → j < length xs → get_or xs i 0 < get_or xs j 0

-- the component at position j is that at position i, or a later one
abbrev pub IsOnward : List ℕ → ℕ → ℕ → Type 0
IsOnward bounds i j = (b : ℕ) → has nat_eq bounds b ≡ true → b ≤ i → b ≤ j

-- a link from position i leads to a number that is done, or onward
abbrev pub IsGone : List Place → List ℕ → ℕ → ℕ → Type 0
IsGone places bounds i q = (is_done (place_in places q) ≡ true) ⊎ ((j : ℕ) × ((place_in places q ≡ OnPath j) × IsOnward bounds i j))

-- a done number tells whether it is on a cycle
abbrev pub AreTold : Links → List Place → Type 0
AreTold links places = (k : ℕ) (b : Bool) → place_in places k ≡ Done b → (b ≡ true) ↔ IsNumberOnCycle links k

-- the numbers on the path are those that are placed there
pub record ArePlaced (places : List Place) (path : List ℕ) : Type 0 where
  pub on_path : (i : ℕ) → i < length path → place_in places (get_or path i 0) ≡ OnPath i
  pub placed : (k i : ℕ) → place_in places k ≡ OnPath i → (i < length path) × (get_or path i 0 ≡ k)

-- What a walk knows. A number of the path reaches each one onward of it, and the links that were looked at lead onward
-- or to done numbers.
pub record AreWalked (links : Links) (places : List Place) (looked path bounds calls : List ℕ) : Type 0 where
  pub places_size : length places ≡ length links
  pub looked_size : length looked ≡ length links
  pub at : ArePlaced places path
  pub fresh : (k : ℕ) → place_in places k ≡ Unseen → get_or looked k 0 ≡ 0
  pub within : (k : ℕ) → get_or looked k 0 ≤ length (linked links k)
  pub calls_rise : IsRising calls
  pub bounds_rise : IsRising bounds
  pub calls_placed : (i : ℕ) → has nat_eq calls i ≡ true → i < length path
  pub bounds_called : (b : ℕ) → has nat_eq bounds b ≡ true → has nat_eq calls b ≡ true
  pub first_bound : 0 < length path → has nat_eq bounds 0 ≡ true
  pub ended : (i : ℕ) → i < length path → (has nat_eq calls i ≡ true) ⊎ (get_or looked (get_or path i 0) 0 ≡ length (linked links (get_or path i 0)))
  pub reaches : (i j : ℕ) → i < length path → j < length path → IsOnward bounds i j → Reaches links (get_or path i 0) (get_or path j 0)
  pub gone : (i x : ℕ) → i < length path → x < get_or looked (get_or path i 0) 0 → IsGone places bounds i (get_or (linked links (get_or path i 0)) x 0)
  pub closed : (k q : ℕ) → is_done (place_in places k) ≡ true → has nat_eq (linked links k) q ≡ true → is_done (place_in places q) ≡ true
  pub told : AreTold links places

abbrev pub IsWalk : Links → Walk → Type 0
IsWalk links walk = AreWalked links walk.places.items walk.looked.items walk.path.items walk.bounds.items walk.calls.items

-- the same, where one more number is called
abbrev pub IsWalkAt : Links → Walk → ℕ → Type 0
IsWalkAt links walk at = AreWalked links walk.places.items walk.looked.items walk.path.items walk.bounds.items (walk.calls.items ++ at ∷ [])

-- what was seen stays so
abbrev pub AreKept : List Place → List Place → Type 0
AreKept places places' = (k : ℕ) → is_seen (place_in places k) ≡ true → is_seen (place_in places' k) ≡ true

-- the number is called, and is a component by itself
pub record IsEntered (k : ℕ) (walk walk' : Walk) : Type 0 where
  pub places : walk'.places.items ≡ set walk.places.items k (OnPath (length walk.path.items))
  pub looked : walk'.looked ≡ walk.looked
  pub path : walk'.path.items ≡ walk.path.items ++ k ∷ []
  pub bounds : walk'.bounds.items ≡ walk.bounds.items ++ length walk.path.items ∷ []
  pub calls : walk'.calls.items ≡ walk.calls.items ++ length walk.path.items ∷ []

-- the numbers of the path from one position up to another are done
pub record IsClosed (from to : ℕ) (is_on_cycle : Bool) (places places' : List Place) : Type 0 where
  pub size : length places' ≡ length places
  pub kept : (k : ℕ) → ((i : ℕ) → place_in places k ≡ OnPath i → from ≤ i → i < to → ⊥) → place_in places' k ≡ place_in places k
  pub done : (k i : ℕ) → place_in places k ≡ OnPath i → from ≤ i → i < to → place_in places' k ≡ Done is_on_cycle

-- how many links aren't looked at
abbrev pub unlooked : Links → List ℕ → ℕ
unlooked [] looked = 0
unlooked (v ∷ vs) [] = length v.items + unlooked vs []
unlooked (v ∷ vs) (x ∷ xs) = (length v.items - x) + unlooked vs xs

-- so many steps are left at most
abbrev pub left : Links → Walk → ℕ
left links walk = (unlooked links walk.looked.items + unlooked links walk.looked.items) + length walk.calls.items

-- the link from the last call leads to where it may
pub record IsFollowed (links : Links) (at link : ℕ) (walk walk' : Walk) : Type 0 where
  pub walked : IsWalk links walk'
  pub kept : AreKept walk.places.items walk'.places.items
  pub looked : walk'.looked ≡ walk.looked
  pub calls : length walk'.calls.items ≤ length walk.calls.items + 1
  pub still : (at < length walk'.path.items) × (get_or walk'.path.items at 0 ≡ get_or walk.path.items at 0)
  pub gone : IsGone walk'.places.items walk'.bounds.items at link

-- the walk went on
pub record IsStep (links : Links) (walk walk' : Walk) : Type 0 where
  pub walked : IsWalk links walk'
  pub kept : AreKept walk.places.items walk'.places.items
  pub fewer : left links walk' ≤ left links walk

-- no number is called
pub record IsAtRest (links : Links) (walk : Walk) : Type 0 where
  pub walked : IsWalk links walk
  pub uncalled : walk.calls.items ≡ []
