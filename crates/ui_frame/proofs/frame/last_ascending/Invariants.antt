use Rattle.std.proofs.Common.{◌≡◌, ◌+◌, ◌-◌, ◌*◌}
use Rattle.ui_frame.specs.Opening.{ascends, last_from, words_at}
use Rattle.ui_frame.proofs.frame.last_ascending.Given as goal

abbrev pub invariant-loop-i : goal.invariant-loop-i
invariant-loop-i l = record {
  same_order : ascends l.last (words_at (l.count - l.i) (l.place + 4 * l.i) l.bytes) ≡ ascends 0 (words_at l.count l.place l.bytes);
  same_last : last_from l.last (words_at (l.count - l.i) (l.place + 4 * l.i) l.bytes) ≡ last_from 0 (words_at l.count l.place l.bytes);
}
