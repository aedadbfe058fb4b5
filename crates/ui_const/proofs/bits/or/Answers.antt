use Rattle.ui_const.proofs.Patterns.{or_is}
use Rattle.ui_const.proofs.bits.or.Goals as goal

pub returns : goal.returns
returns c = or_is c.args.a c.args.b c.ranges.a c.ranges.b
