use Rattle.ui_const.proofs.Shifting.{right_is}
use Rattle.ui_const.proofs.shifts.moved_right.Goals as goal

pub returns : goal.returns
returns c = right_is c.args.a c.min.result c.args.count c.ranges.a c.min.ensures
