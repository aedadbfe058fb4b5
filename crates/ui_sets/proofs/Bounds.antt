-- Type parameters without a constraint.
use Rattle.std.proofs.Common.{◌≡◌, ℕ, zero, suc, ◌≤◌, List, [], ◌∷◌, length, refl, arith}
use Rattle.ui_types.specs.declared.id.TypeId.{TypeId}
use Rattle.ui_types.specs.Table.{Table, trees}
use Rattle.ui_sets.specs.Needed.{any_type, bound_of}

pub no_bound_of : (table : Table) (ids : List TypeId) (k : ℕ) → length ids ≤ k
    → bound_of (trees table ids) k ≡ any_type
no_bound_of table [] k h = refl
no_bound_of table (t ∷ ts) zero h = absurd (omega arith)
no_bound_of table (t ∷ ts) (suc k) h = no_bound_of table ts k (omega arith)
