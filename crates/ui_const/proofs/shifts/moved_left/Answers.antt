use Rattle.ui_const.proofs.Shifting.{left_too_far}
use Rattle.ui_const.proofs.shifts.moved_left.Goals as goal

pub returns-then-count-ge-WHOLE_WIDTH : goal.returns-then-count-ge-WHOLE_WIDTH
returns-then-count-ge-WHOLE_WIDTH c =
    left_too_far c.args.a c.args.count c.if-count-ge-WHOLE_WIDTH.true c.if-a-eq0.false c.else-a-eqminus1.either
