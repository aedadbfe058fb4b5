use Rattle.ui_collect.proofs.StepLemmas.{Walked}
use Rattle.ui_collect.specs.Package as rules
use Rattle.ui_collect.specs.Views.{at_place}
use Rattle.ui_collect.specs.Package.{source_of}
use Rattle.ui_tree.specs.StmtView.{type_spec_view}
use Rattle.ui_collect.proofs.package.type_group.Given as goal

abbrev pub invariant-loop-spec : goal.invariant-loop-spec
invariant-loop-spec l = Walked (rules.type_spec_rule (at_place l.at)) type_spec_view
    l.initial.before l.before l.list l.spec-index
