use Rattle.ui_types.specs.Table.{Table, AreIds}
use Rattle.ui_infer.specs.Shown.{AreActuals}
use Rattle.ui_infer_tests.proofs.inference.put_actuals.Given as goal

abbrev pub invariant-loop-ty : goal.invariant-loop-ty
invariant-loop-ty l = (table : Table) → AreIds table l.types
    → AreActuals table l.initial.actuals.items → AreActuals table l.actuals.items
