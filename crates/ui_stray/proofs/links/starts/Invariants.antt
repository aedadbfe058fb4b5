use Rattle.ui_stray.proofs.Loops.{AreStarted}
use Rattle.ui_stray.proofs.links.starts.Given as goal

abbrev pub invariant-loop-n : goal.invariant-loop-n
invariant-loop-n l = AreStarted l.frame l.starts.items l.total l.n
