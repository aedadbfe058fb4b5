use Rattle.std.proofs.Common.{drop, map}
use Rattle.ui_tree.specs.View.{trees, view}
use Rattle.ui_collect.specs.Items as shown
use Rattle.ui_collect.specs.Views.{maybe_at}
use Rattle.ui_collect.proofs.ItemLemmas.{Found}
use Rattle.ui_collect.proofs.items.add_valued.Given as goal

abbrev pub invariant-loop-i : goal.invariant-loop-i
invariant-loop-i l = Found l.initial.found.items l.found.items (shown.valued_items l.file l.iota
    (maybe_at l.of) l.names (trees (map view l.values))) (shown.valued_items l.file l.iota
    (maybe_at l.of) (drop l.i l.names) (trees (map view (drop l.i l.values))))
