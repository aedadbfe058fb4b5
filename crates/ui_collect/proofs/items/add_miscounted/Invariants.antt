use Rattle.std.proofs.Common.{drop, map}
use Rattle.ui_tree.specs.View.{trees, view}
use Rattle.ui_collect.specs.Items as shown
use Rattle.ui_collect.specs.Views.{maybe_at}
use Rattle.ui_collect.proofs.ItemLemmas.{Found}
use Rattle.ui_collect.proofs.items.add_miscounted.Given as goal

abbrev pub invariant-loop-name : goal.invariant-loop-name
invariant-loop-name l = Found l.initial.found.items l.found.items (map (shown.item l.file
    (shown.miscounted l.iota (shown.first_spot l.names) (maybe_at l.of) (trees (map view
    l.values)))) l.names) (map (shown.item l.file (shown.miscounted l.iota (shown.first_spot
    l.names) (maybe_at l.of) (trees (map view l.values)))) (drop l.name-index l.names))
