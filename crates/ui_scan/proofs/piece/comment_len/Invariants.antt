use Rattle.std.proofs.Common.{◌≡◌, ◌≤◌, ◌+◌, ◌-◌, length, drop}
use Rattle.std.specs.Prelude.{option_map}
use Rattle.ui_scan.specs.Piece.{comment_len}
use Rattle.ui_scan.proofs.piece.comment_len.Given as goal

abbrev pub invariant-loop-len : goal.invariant-loop-len
invariant-loop-len l = record {
  within : l.len ≤ length l.bytes;
  so_far : option_map (λ n. l.len + n) (comment_len (drop l.len l.bytes)) ≡ comment_len l.bytes;
}

abbrev pub decreases-loop-len : goal.decreases-loop-len
decreases-loop-len l = length l.bytes - l.len
