use Rattle.ui_collect.proofs.StepLemmas.{Passed}
use Rattle.ui_collect.specs.Package as rules
use Rattle.ui_collect.specs.Views.{at_place}
use Rattle.ui_collect.specs.Package.{source_of}
use Rattle.std.specs.Prelude.{false}
use Rattle.ui_collect.proofs.package.names_rule.Given as goal

abbrev pub invariant-loop-name : goal.invariant-loop-name
invariant-loop-name l = Passed (rules.name_rule (at_place l.at) false) l.initial.before l.before
    l.list l.name-index
