use Rattle.ui_collect.proofs.StepLemmas.{Walked}
use Rattle.ui_collect.specs.Package as rules
use Rattle.ui_collect.specs.Package.{source_of}
use Rattle.ui_collect.proofs.package.files_rule.Given as goal

abbrev pub invariant-loop-file : goal.invariant-loop-file
invariant-loop-file l = Walked (rules.file_rule l.home l.names) source_of l.initial.before
    l.before l.files l.file-index
