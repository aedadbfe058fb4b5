use Rattle.std.proofs.Common.{drop, map}
use Rattle.std.specs.List.{flat_map}
use Rattle.ui_tree.specs.StmtView.{type_spec_view}
use Rattle.ui_used.specs.Mentions.{in_type_group}
use Rattle.ui_used.proofs.MentionLemmas.{Found}
use Rattle.ui_used.proofs.mentions.in_type_list.Given as goal

abbrev pub invariant-loop-spec : goal.invariant-loop-spec
invariant-loop-spec l = Found l.initial.found l.found (flat_map in_type_group (map type_spec_view
    l.list)) (flat_map in_type_group (map type_spec_view (drop l.spec-index l.list)))
