use Rattle.ui_collect.proofs.StepLemmas.{Walked}
use Rattle.ui_tree.specs.StmtView.{import_view}
use Rattle.ui_used.specs.Used as rules
use Rattle.ui_used.specs.Views.{uses_of}
use Rattle.ui_used.proofs.used.imports_rule.Given as goal

abbrev pub invariant-loop-import : goal.invariant-loop-import
invariant-loop-import l = Walked (rules.import_rule (uses_of l.at)) import_view tt tt l.list
    l.import-index
