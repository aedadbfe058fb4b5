use Rattle.std.proofs.Common.{drop, map}
use Rattle.ui_tree.specs.StmtView.{file_view}
use Rattle.ui_collect.specs.Items as shown
use Rattle.ui_collect.proofs.ItemLemmas.{Found}
use Rattle.std.specs.Prelude.{[]}
use Rattle.ui_collect.proofs.items.items_of.Given as goal

abbrev pub invariant-loop-i : goal.invariant-loop-i
invariant-loop-i l = Found [] l.found.items (shown.items_from 0 (map file_view l.files))
    (shown.items_from l.i (map file_view (drop l.i l.files)))
