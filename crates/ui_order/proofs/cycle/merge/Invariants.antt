use Rattle.std.proofs.Common.{ℕ, ◌≤◌, ◌<◌, vec_len, get_or}
use Rattle.ui_order.proofs.cycle.merge.Given as goal

abbrev pub invariant-loop-count : goal.invariant-loop-count
invariant-loop-count l = record { within : l.count ≤ vec_len l.bounds; larger : (i : ℕ) → l.count ≤ i → i < vec_len l.bounds → l.position < get_or l.bounds.items i 0 }

abbrev pub decreases-loop-count : goal.decreases-loop-count
decreases-loop-count l = l.count
