use Rattle.ui_const.proofs.Patterns.{xor_is}
use Rattle.ui_const.proofs.bits.xor.Goals as goal

pub returns : goal.returns
returns c = xor_is c.args.a c.args.b c.ranges.a c.ranges.b
