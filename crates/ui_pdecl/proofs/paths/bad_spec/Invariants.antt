use Rattle.std.proofs.Common.{◌≡◌, drop}
use Rattle.ui_pdecl.proofs.PathSteps.{specs_from}
use Rattle.ui_pdecl.proofs.paths.bad_spec.Given as goal

abbrev pub invariant-loop-import : goal.invariant-loop-import
invariant-loop-import l = specs_from l.own l.specs ≡ specs_from l.own (drop l.import-index l.specs)
