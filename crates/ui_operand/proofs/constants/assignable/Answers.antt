use Rattle.std.proofs.Common.{subst, Result}
use Rattle.ui_base.specs.declared.fault.CheckFault.{CheckFault}
use Rattle.ui_operand.specs.declared.constants.Constant as code
use Rattle.ui_operand.specs.Shown.{GivesPair}
use Rattle.ui_operand.proofs.constants.assignable.Goals as goal

pub returns-in-Err : goal.returns-in-Err
returns-in-Err c want h =
    c.incomparable.ensures want
    (subst
    (λ (p : Result (code.Constant × code.Constant) CheckFault). GivesPair c.args.table.now want p)
    c.in-Err.is h)
