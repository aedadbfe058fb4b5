use Rattle.std.proofs.Common.{length}
use Rattle.ui_frame.proofs.number.+leading_number.Given as goal

abbrev pub decreases-leading_number : goal.decreases-leading_number
decreases-leading_number l = length l.bytes.now
