use Rattle.std.proofs.Common.{drop, map}
use Rattle.ui_tree.specs.StmtView.{value_view}
use Rattle.ui_collect.specs.Items as shown
use Rattle.ui_collect.specs.Views.{spec_at}
use Rattle.ui_collect.proofs.ItemLemmas.{Found}
use Rattle.ui_collect.proofs.items.add_const_group.Given as goal

abbrev pub invariant-loop-i : goal.invariant-loop-i
invariant-loop-i l = Found l.initial.found.items l.found.items (shown.group_items l.file 0
    shown.no_value (map value_view l.list)) (shown.group_items l.file l.i (spec_at l.last) (map
    value_view (drop l.i l.list)))
