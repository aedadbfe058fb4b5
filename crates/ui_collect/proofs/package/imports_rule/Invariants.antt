use Rattle.ui_collect.proofs.StepLemmas.{Walked}
use Rattle.ui_collect.specs.Package as rules
use Rattle.ui_collect.specs.Views.{at_place}
use Rattle.ui_collect.specs.Package.{source_of}
use Rattle.ui_tree.specs.StmtView.{import_view}
use Rattle.ui_collect.proofs.package.imports_rule.Given as goal

abbrev pub invariant-loop-import : goal.invariant-loop-import
invariant-loop-import l = Walked (rules.import_rule (at_place l.at)) import_view l.initial.before
    l.before l.list l.import-index
