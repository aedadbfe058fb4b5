use Rattle.std.proofs.Common.{◌≡◌, drop}
use Rattle.ui_pdecl.proofs.PathSteps.{imports_from}
use Rattle.ui_pdecl.proofs.paths.bad_import.Given as goal

abbrev pub invariant-loop-import : goal.invariant-loop-import
invariant-loop-import l = imports_from l.own l.imports ≡ imports_from l.own (drop l.import-index l.imports)
