use Rattle.ui_collect.proofs.StepLemmas.{Folded}
use Rattle.ui_scopes.specs.Scopes.{find_in}
use Rattle.ui_collect.specs.Levels as levels
use Rattle.ui_collect.specs.Views.{imported_view}
use Rattle.ui_collect.proofs.levels.add_group.Given as goal

abbrev pub invariant-loop-spec : goal.invariant-loop-spec
invariant-loop-spec l = Folded (levels.with_import l.names) imported_view (find_in
    l.initial.level) (find_in l.level) l.list l.spec-index
