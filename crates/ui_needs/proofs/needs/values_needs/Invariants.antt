use Rattle.std.proofs.Common.{drop, map}
use Rattle.ui_tree.specs.View.{trees, view}
use Rattle.ui_needs.specs.Needs.{values_needs}
use Rattle.ui_needs.specs.Views.{found_in}
use Rattle.ui_needs.proofs.NeedLemmas.{Found}
use Rattle.ui_needs.proofs.needs.values_needs.Given as goal

abbrev pub invariant-loop-tree : goal.invariant-loop-tree
invariant-loop-tree l = Found l.initial.found.items l.found.items
    (values_needs (found_in l.numbers) (trees (map view l.list)))
    (values_needs (found_in l.numbers) (trees (map view (drop l.tree-index l.list))))
