use Rattle.std.proofs.Common.{◌≡◌, ◌+◌, ◌≤◌, take}
use Rattle.ui_sources.proofs.PlaceLemmas.{spot_behind}
use Rattle.ui_sources.proofs.fault.spot_at.Given as goal

abbrev pub invariant-loop-byte : goal.invariant-loop-byte
invariant-loop-byte l = record {
  so_far : l.spot ≡ spot_behind (take l.byte-index l.before);
  line : l.spot.line ≤ 1 + l.byte-index;
  col : l.spot.col ≤ 1 + l.byte-index;
}
