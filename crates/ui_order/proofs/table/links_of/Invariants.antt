use Rattle.ui_order.specs.Numbered.{names}
use Rattle.ui_order.proofs.NameLemmas.{Linked}
use Rattle.ui_order.proofs.table.links_of.Given as goal

abbrev pub invariant-loop-path : goal.invariant-loop-path
invariant-loop-path l = Linked l.read.entries (names l.paths) l._path-iterator l.links.items
