use Rattle.std.proofs.Common.{◌≡◌, ◌≤◌, ◌+◌, take}
use Rattle.ui_scan.specs.Scan.{place_after}
use Rattle.ui_scan.proofs.place.Place.after.Given as goal

abbrev pub invariant-loop-b : goal.invariant-loop-b
invariant-loop-b l = record {
  so_far : l.place ≡ place_after l.fn.self (take l.b-index l.bytes);
  at : l.place.at ≡ l.fn.self.at + l.b-index;
  line : l.place.line ≤ l.fn.self.line + l.b-index;
  col : l.place.col ≤ l.fn.self.col + l.b-index;
}
