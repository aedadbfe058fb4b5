-- Constants in memory, with ids, and what calls on them answer.
use Rattle.std.specs.Prelude.{Result}
use Rattle.ui_base.specs.declared.value.Value.{Value}
use Rattle.ui_base.specs.declared.fault.CheckFault.{CheckFault}
use Rattle.ui_types.specs.Table.{Table, IsId, tree}
use Rattle.ui_scopes.specs.Steps.{Checks, Gives}
use Rattle.ui_operand.specs.declared.constants.Constant as code
use Rattle.ui_rules.specs.Constants.{Constant}

abbrev pub shown_constant : Table → code.Constant → Constant
shown_constant table x = record { ty = tree table x.ty; kind = x.kind; value = x.value }

abbrev pub GivesConstant : Table → Checks Constant → Result code.Constant CheckFault → Type 0
GivesConstant table = Gives (λ x. IsId table x.ty) (shown_constant table)

abbrev pub GivesPair : Table → Checks (Constant × Constant)
    → Result (code.Constant × code.Constant) CheckFault → Type 0
GivesPair table =
    Gives (λ p. IsId table p.0.ty × IsId table p.1.ty)
    (λ p. (shown_constant table p.0, shown_constant table p.1))

abbrev pub GivesValue : Checks Value → Result Value CheckFault → Type 0
GivesValue = Gives (λ v. Unit {0}) (λ v. v)
