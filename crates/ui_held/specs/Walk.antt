-- What a walk over the parts of a type has met.
use Rattle.std.specs.Prelude.{◌≡◌, ◌⊎◌, ℕ, true, nat_eq, List, All}
use Rattle.ui_base.specs.declared.name.Name.{Name}
use Rattle.ui_types.specs.Table.{Table, AreIds, tree}
use Rattle.ui_order.specs.Steps.{has}
use Rattle.ui_held.specs.declared.held.Walk.{Walk}
use Rattle.ui_held.specs.Held.{held, places}

-- the numbers of the first list are in the second
abbrev pub AreIn : List ℕ → List ℕ → Type 0
AreIn xs ys = (k : ℕ) → has nat_eq xs k ≡ true → has nat_eq ys k ≡ true

-- the same numbers are in both
abbrev pub IsSame : List ℕ → List ℕ → Type 0
IsSame xs ys = AreIn xs ys × AreIn ys xs

-- what the types that were looked at hold was found
pub record IsWalk (table : Table) (names : List Name) (walk : Walk) : Type 0 where
  pub ids : AreIds table walk.looked.keys
  pub found : All (λ t. AreIn (places names (held (tree table t))) walk.held.items) walk.looked.keys

-- these names were found, and no others
pub record Looks (table : Table) (names found : List Name) (old new : Walk) : Type 0 where
  pub walk : IsWalk table names new
  pub keeps : AreIn old.held.items new.held.items
  pub finds : AreIn (places names found) new.held.items
  pub only : (k : ℕ) → has nat_eq new.held.items k ≡ true
      → (has nat_eq old.held.items k ≡ true) ⊎ (has nat_eq (places names found) k ≡ true)
