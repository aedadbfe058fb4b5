use Rattle.ui_collect.proofs.StepLemmas.{Walked}
use Rattle.ui_collect.specs.Package.{source_of}
use Rattle.ui_used.specs.Used as rules
use Rattle.ui_used.proofs.used.imports_used.Given as goal

abbrev pub invariant-loop-file : goal.invariant-loop-file
invariant-loop-file l = Walked (rules.file_rule l.names) source_of tt tt l.files l.file-index
