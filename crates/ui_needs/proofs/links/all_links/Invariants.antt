use Rattle.ui_needs.specs.Views.{found_in, lists}
use Rattle.ui_needs.proofs.LinkLemmas.{Linked}
use Rattle.ui_needs.proofs.links.all_links.Given as goal

abbrev pub invariant-loop-i : goal.invariant-loop-i
invariant-loop-i l = Linked (found_in l.numbers) l.items (lists l.found.items) l.i
