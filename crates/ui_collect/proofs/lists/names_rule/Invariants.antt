use Rattle.ui_collect.proofs.StepLemmas.{Passed}
use Rattle.ui_collect.specs.Lists.{name_rule}
use Rattle.ui_collect.proofs.lists.names_rule.Given as goal

abbrev pub invariant-loop-name : goal.invariant-loop-name
invariant-loop-name l = Passed (name_rule l.file) l.initial.names l.names l.list l.name-index
