use Rattle.std.proofs.Common.{drop, map}
use Rattle.ui_tree.specs.StmtView.{value_view}
use Rattle.ui_collect.specs.Items as shown
use Rattle.ui_collect.proofs.ItemLemmas.{Found}
use Rattle.ui_collect.proofs.items.add_vars.Given as goal

abbrev pub invariant-loop-name : goal.invariant-loop-name
invariant-loop-name l = Found l.initial.found.items l.found.items (shown.var_items l.file
    (value_view l.spec)) (map (shown.item l.file (shown.varied (value_view l.spec).of)) (drop
    l.name-index l.spec.names))
