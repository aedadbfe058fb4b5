use Rattle.ui_collect.proofs.StepLemmas.{Mapped}
use Rattle.ui_scopes.specs.Scopes.{find_in}
use Rattle.ui_collect.specs.Levels as levels
use Rattle.ui_tree.specs.StmtView.{file_view}
use Rattle.ui_collect.proofs.levels.file_levels.Given as goal

abbrev pub invariant-loop-file : goal.invariant-loop-file
invariant-loop-file l = Mapped find_in (λ f. levels.file_names l.names (file_view f))
    l.found.items l.files l.file-index
