use Rattle.std.proofs.Common.{◌≡◌, ◌≤◌, take}
use Rattle.ui_scan.specs.Digits.{number_of, greatest}
use Rattle.ui_scan.proofs.digits.long.Given as goal

abbrev pub invariant-loop-b : goal.invariant-loop-b
invariant-loop-b l = record {
  so_far : l.number ≡ number_of l.base (take l.b-index l.digits);
  small : l.number ≤ greatest;
}
