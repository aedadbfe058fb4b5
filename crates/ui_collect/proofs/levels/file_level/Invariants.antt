use Rattle.ui_collect.proofs.StepLemmas.{Folded}
use Rattle.ui_scopes.specs.Scopes.{find_in}
use Rattle.ui_collect.specs.Levels as levels
use Rattle.ui_tree.specs.StmtView.{import_view}
use Rattle.ui_tree.specs.Stmt.{Import}
use Rattle.ui_collect.proofs.levels.file_level.Given as goal

abbrev pub invariant-loop-import : goal.invariant-loop-import
invariant-loop-import l = Folded (λ found (i : Import). levels.with_specs l.names found i.specs)
    import_view levels.no_meaning (find_in l.level) l.file.imports l.import-index
