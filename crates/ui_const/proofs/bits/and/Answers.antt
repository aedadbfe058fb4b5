use Rattle.ui_const.proofs.Patterns.{and_is}
use Rattle.ui_const.proofs.bits.and.Goals as goal

pub returns : goal.returns
returns c = and_is c.args.a c.args.b c.ranges.a c.ranges.b
