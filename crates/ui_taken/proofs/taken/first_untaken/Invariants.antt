use Rattle.ui_taken.proofs.FirstLemmas.{Passed}
use Rattle.ui_taken.proofs.taken.first_untaken.Given as goal

abbrev pub invariant-loop-i : goal.invariant-loop-i
invariant-loop-i l = Passed l.taken l.files l.i
