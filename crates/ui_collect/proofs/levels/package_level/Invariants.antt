use Rattle.ui_collect.proofs.StepLemmas.{PassedBy}
use Rattle.ui_scopes.specs.Scopes.{find_in}
use Rattle.ui_collect.specs.Levels as levels
use Rattle.ui_collect.proofs.levels.package_level.Given as goal

abbrev pub invariant-loop-name : goal.invariant-loop-name
invariant-loop-name l = PassedBy (levels.with_object l.path) levels.no_meaning (find_in l.level)
    l.name-items l.name-index
