use Rattle.ui_collect.proofs.StepLemmas.{Walked}
use Rattle.ui_collect.specs.Package as rules
use Rattle.ui_collect.specs.Views.{at_place}
use Rattle.ui_collect.specs.Package.{source_of}
use Rattle.ui_tree.specs.StmtView.{decl_view}
use Rattle.ui_collect.proofs.package.decls_rule.Given as goal

abbrev pub invariant-loop-decl : goal.invariant-loop-decl
invariant-loop-decl l = Walked (rules.decl_rule (at_place l.at)) decl_view l.initial.before
    l.before l.list l.decl-index
