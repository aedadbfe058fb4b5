use Rattle.std.proofs.Common.{◌≤◌, length}
use Rattle.ui_forms.proofs.WordLemmas.{NoSlashFrom}
use Rattle.ui_forms.proofs.words.last_segment.Given as goal

abbrev pub invariant-loop-start : goal.invariant-loop-start
invariant-loop-start l = (l.start ≤ length l.path) × NoSlashFrom l.start l.path

abbrev pub decreases-loop-start : goal.decreases-loop-start
decreases-loop-start l = l.start
