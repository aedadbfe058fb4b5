use Rattle.std.proofs.Common.{◌≡◌, ◌≤◌, ◌*◌, ◌^◌, take, length}
use Rattle.std.specs.List.{sum_by}
use Rattle.ui_frame.specs.Container.{section}
use Rattle.ui_listing.proofs.listing.total.Given as goal

abbrev pub invariant-loop-k : goal.invariant-loop-k
invariant-loop-k l = record {
  so_far : l.total ≡ sum_by length (take l.k (section l.s l.frame));
  small : l.total ≤ l.k * 2 ^ 64;
}
