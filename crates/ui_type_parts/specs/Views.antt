-- What the code's answers stand for.
use Rattle.std.specs.Prelude.{ℕ, List, Result}
use Rattle.ui_base.specs.declared.value.Spot.{Spot}
use Rattle.ui_base.specs.declared.fault.CheckFault.{CheckFault}
use Rattle.ui_types.specs.declared.id.TypeId.{TypeId}
use Rattle.ui_types.specs.Ty.{Ty}
use Rattle.ui_types.specs.Table.{Table, IsId, tree}
use Rattle.ui_scopes.specs.Steps.{Checks, Gives, ◌>>=◌}
use Rattle.ui_rules.specs.Constants.{Constant}
use Rattle.ui_face_rules.specs.Types.{value_length}

abbrev pub GivesType : Table → Checks Ty → Result TypeId CheckFault → Type 0
GivesType table = Gives (IsId table) (tree table)

abbrev pub GivesLength : Checks ℕ → Result ℕ CheckFault → Type 0
GivesLength = Gives (λ n. Unit {0}) (λ n. n)

-- the length that a constant is
abbrev pub constant_length : List ℕ → Spot → Checks Constant → Checks ℕ
constant_length file at c = c >>= λ c. value_length file at c.value
