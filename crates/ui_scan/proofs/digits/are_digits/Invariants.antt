use Rattle.std.proofs.Common.{◌≡◌, length}
use Rattle.ui_scan.specs.Digits.{are_digits}
use Rattle.ui_scan.proofs.digits.are_digits.Given as goal

abbrev pub invariant-loop-left : goal.invariant-loop-left
invariant-loop-left l = are_digits l.base l.left ≡ are_digits l.base l.fn.digits

abbrev pub decreases-loop-left : goal.decreases-loop-left
decreases-loop-left l = length l.left
