use Rattle.std.proofs.Common.{◌≡◌, take}
use Rattle.ui_scan.specs.Digits.{number_of}
use Rattle.ui_scan.proofs.digits.short.Given as goal

abbrev pub invariant-loop-b : goal.invariant-loop-b
invariant-loop-b l = l.number ≡ number_of l.base (take l.b-index l.digits)
