use Rattle.ui_collect.proofs.StepLemmas.{Walked}
use Rattle.ui_collect.specs.Views.{imported_view}
use Rattle.ui_used.specs.Used as rules
use Rattle.ui_used.specs.Views.{uses_of}
use Rattle.ui_used.proofs.used.specs_rule.Given as goal

abbrev pub invariant-loop-spec : goal.invariant-loop-spec
invariant-loop-spec l = Walked (rules.spec_rule (uses_of l.at)) imported_view tt tt l.list
    l.spec-index
