use Rattle.ui_pread.proofs.knot.+part.Given as goal

abbrev pub decreases-part : goal.decreases-part
decreases-part l = l.budget
