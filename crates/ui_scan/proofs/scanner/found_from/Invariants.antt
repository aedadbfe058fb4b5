use Rattle.std.proofs.Common.{◌≡◌, ◌-◌, length}
use Rattle.ui_scan.specs.Scan.{outcome}
use Rattle.ui_scan.specs.Steps.{IsAt}
use Rattle.ui_scan.proofs.scanner.found_from.Given as goal

abbrev pub invariant-loop-place : goal.invariant-loop-place
invariant-loop-place l = record {
  at : IsAt l.text l.place;
  same : outcome l.text l.fault l.fn.state.due l.place ≡ outcome l.text l.fault l.fn.state.due l.fn.state.place;
}

abbrev pub decreases-loop-place : goal.decreases-loop-place
decreases-loop-place l = length l.text - l.place.at
