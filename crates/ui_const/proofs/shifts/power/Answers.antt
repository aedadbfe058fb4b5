use Rattle.ui_const.proofs.Shifting.{power_is}
use Rattle.ui_const.proofs.shifts.power.Goals as goal

pub returns : goal.returns
returns c = power_is c.args.count c.requires
