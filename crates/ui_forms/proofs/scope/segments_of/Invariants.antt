use Rattle.ui_forms.proofs.PlaceLemmas.{IsFrom, segment_of}
use Rattle.ui_forms.proofs.scope.segments_of.Given as goal

abbrev pub invariant-loop-place : goal.invariant-loop-place
invariant-loop-place l = IsFrom segment_of l.place l.segments l.imports

abbrev pub decreases-loop-place : goal.decreases-loop-place
decreases-loop-place l = l.place
