use Rattle.std.proofs.Common.{drop, map}
use Rattle.std.specs.List.{flat_map}
use Rattle.ui_tree.specs.StmtView.{type_spec_view}
use Rattle.ui_collect.specs.Items as shown
use Rattle.ui_collect.proofs.ItemLemmas.{Found}
use Rattle.ui_collect.proofs.items.add_type_group.Given as goal

abbrev pub invariant-loop-spec : goal.invariant-loop-spec
invariant-loop-spec l = Found l.initial.found.items l.found.items (flat_map (shown.type_items
    l.file) (map type_spec_view l.list)) (flat_map (shown.type_items l.file) (map type_spec_view
    (drop l.spec-index l.list)))
