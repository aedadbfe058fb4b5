use Rattle.ui_frame.proofs.Appending.{NumberSoFar}
use Rattle.ui_frame.proofs.number.put_uint.Given as goal

abbrev pub invariant-loop-rest : goal.invariant-loop-rest
invariant-loop-rest l = NumberSoFar l.n l.rest l.fn.out.items l.out.items

abbrev pub decreases-loop-rest : goal.decreases-loop-rest
decreases-loop-rest l = l.rest
