use Rattle.std.proofs.Common.{drop, map}
use Rattle.ui_tree.specs.View.{group_with, groups, kept, type_view}
use Rattle.ui_used.specs.Mentions.{in_groups}
use Rattle.ui_used.proofs.MentionLemmas.{Found}
use Rattle.ui_used.proofs.mentions.+mentions.Given as goal

abbrev pub invariant-in_groups-loop-group : goal.invariant-in_groups-loop-group
invariant-in_groups-loop-group l = Found l.initial.found l.found
    (in_groups (groups kept (map (group_with type_view) l.list)))
    (in_groups (groups kept (map (group_with type_view) (drop l.group-index l.list))))
