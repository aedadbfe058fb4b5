-- Declarations that depend on themselves. Go specification, "Type declarations", "Constant
-- declarations", "Package initialization".
use Rattle.std.specs.Prelude.{◌≡◌, ◌⊎◌, ℕ, ◌+◌, ◌*◌, ◌<◌, Bool, false, nat_eq, List, [], ◌∷◌}
use Rattle.std.specs.Prelude.{Option, Some, None, get_or}
use Rattle.std.specs.List.{list_any}
use Rattle.ui_order.specs.Steps.{Leads}

-- the links of a node; past the end none
abbrev pub links_at : List (List ℕ) → ℕ → List ℕ
links_at links k = get_or links k []

-- links lead from the node to itself
abbrev pub IsNodeOnCycle : List (List ℕ) → ℕ → Type 0
IsNodeOnCycle links k = Leads nat_eq (links_at links) k k

-- a node of the k-th declaration is on a cycle
abbrev pub IsOnCycle : List (List ℕ) → ℕ → Type 0
IsOnCycle links k = IsNodeOnCycle links (2 * k) ⊎ IsNodeOnCycle links (2 * k + 1)

-- the first declaration on a cycle, of so many
abbrev pub IsFirstCycle : List (List ℕ) → ℕ → Option ℕ → Type 0
IsFirstCycle links count None = (k : ℕ) → k < count → IsOnCycle links k → ⊥
IsFirstCycle links count (Some k) =
    (k < count) × IsOnCycle links k × ((j : ℕ) → j < k → IsOnCycle links j → ⊥)

-- whether a link leads to a node that is marked
abbrev pub needs_marked : List Bool → List ℕ → Bool
needs_marked marks links = list_any (λ k. get_or marks k false) links
