use Rattle.std.proofs.Common.{◌*◌, replicate}
use Rattle.ui_consts.specs.Writing.{Adds}
use Rattle.ui_consts.proofs.write.add_same.Given as goal

abbrev pub invariant-loop-i : goal.invariant-loop-i
invariant-loop-i l = Adds l.s (replicate l._i l.bytes) (4096 * l._i) l.initial.out l.out
