use Rattle.std.proofs.Common.{◌≡◌, drop, map}
use Rattle.ui_tree.specs.View.{view}
use Rattle.ui_stmts.specs.Simple.{names_in}
use Rattle.ui_psimple.proofs.NamesIn.{names_and}
use Rattle.ui_psimple.proofs.simple.names_in.Given as goal

abbrev pub invariant-loop-of : goal.invariant-loop-of
invariant-loop-of l = names_and l.names (names_in (map view (drop l.of-index l.all))) ≡ names_in (map view l.all)
