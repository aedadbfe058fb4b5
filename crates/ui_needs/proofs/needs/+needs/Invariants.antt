use Rattle.std.proofs.Common.{drop, map}
use Rattle.ui_tree.specs.View.{group_with, groups, kept, type_view}
use Rattle.ui_needs.specs.Needs.{group_needs}
use Rattle.ui_needs.specs.Views.{found_in}
use Rattle.ui_needs.proofs.NeedLemmas.{Found}
use Rattle.ui_needs.proofs.needs.+needs.Given as goal

abbrev pub invariant-group_needs-loop-group : goal.invariant-group_needs-loop-group
invariant-group_needs-loop-group l = Found l.initial.found.items l.found.items
    (group_needs (found_in l.numbers) (groups kept (map (group_with type_view) l.list)))
    (group_needs (found_in l.numbers) (groups kept (map (group_with type_view) (drop l.group-index
    l.list))))
