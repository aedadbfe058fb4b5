use Rattle.std.proofs.Common.{◌≡◌, ◌≢◌, slice_index, reverse}
use Rattle.ui_eobj.specs.Values.{magnitude_from}
use Rattle.ui_eobj.proofs.magnitude.magnitude_bytes.Given as goal

abbrev pub invariant-loop-rest : goal.invariant-loop-rest
invariant-loop-rest l = record {
  number : magnitude_from l.rest (reverse l.bytes.items) ≡ l.fn.number;
  shortest : l.rest ≡ 0 → slice_index (reverse l.bytes.items) 0 ≢ 0;
}

abbrev pub decreases-loop-rest : goal.decreases-loop-rest
decreases-loop-rest l = l.rest
