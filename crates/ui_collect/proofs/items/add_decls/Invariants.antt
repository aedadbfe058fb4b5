use Rattle.std.proofs.Common.{drop, map}
use Rattle.std.specs.List.{flat_map}
use Rattle.ui_tree.specs.StmtView.{decl_view}
use Rattle.ui_collect.specs.Items as shown
use Rattle.ui_collect.proofs.ItemLemmas.{Found}
use Rattle.ui_collect.proofs.items.add_decls.Given as goal

abbrev pub invariant-loop-decl : goal.invariant-loop-decl
invariant-loop-decl l = Found l.initial.found.items l.found.items (flat_map (shown.decl_items
    l.file) (map decl_view l.list)) (flat_map (shown.decl_items l.file) (map decl_view (drop
    l.decl-index l.list)))
