use Rattle.std.proofs.Common.{drop, map}
use Rattle.ui_tree.specs.View.{trees, view}
use Rattle.ui_used.specs.Mentions.{in_values}
use Rattle.ui_used.proofs.MentionLemmas.{Found}
use Rattle.ui_used.proofs.mentions.in_values.Given as goal

abbrev pub invariant-loop-tree : goal.invariant-loop-tree
invariant-loop-tree l = Found l.initial.found l.found (in_values (trees (map view l.list)))
    (in_values (trees (map view (drop l.tree-index l.list))))
