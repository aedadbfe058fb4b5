use Rattle.ui_collect.specs.Views.{group_step}
use Rattle.ui_collect.proofs.StepLemmas.{Passed}
use Rattle.ui_collect.proofs.lists.+lists.Given as goal

abbrev pub invariant-groups_rule-loop-group : goal.invariant-groups_rule-loop-group
invariant-groups_rule-loop-group l = Passed (group_step l.file) l.initial.names l.names l.list
    l.group-index
