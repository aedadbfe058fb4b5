use Rattle.ui_stray.specs.Links.{AreLinked}
use Rattle.ui_stray.proofs.links.all_links.Given as goal

abbrev pub invariant-loop-n : goal.invariant-loop-n
invariant-loop-n l = AreLinked l.starts l.frame l.n l.links.items
