use Rattle.ui_needs.specs.Views.{found_in}
use Rattle.ui_needs.proofs.LinkLemmas.{Numbered}
use Rattle.ui_needs.proofs.numbers.numbers_of.Given as goal

abbrev pub invariant-loop-i : goal.invariant-loop-i
invariant-loop-i l = Numbered l.items (found_in l.numbers) l.i
