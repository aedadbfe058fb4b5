use Rattle.ui_forms.proofs.PlaceLemmas.{IsFrom, path_of}
use Rattle.ui_forms.proofs.scope.places_of.Given as goal

abbrev pub invariant-loop-place : goal.invariant-loop-place
invariant-loop-place l = IsFrom path_of l.place l.places l.imports

abbrev pub decreases-loop-place : goal.decreases-loop-place
decreases-loop-place l = l.place
