use Rattle.ui_types.specs.Table.{Grows}
use Rattle.ui_infer.specs.Shown.{AreActuals}
use Rattle.ui_infer_tests.proofs.inference.read_actuals.Given as goal

abbrev pub invariant-loop-word : goal.invariant-loop-word
invariant-loop-word l = record {
  actuals : AreActuals l.table l.actuals.items;
  grows : Grows
      l.initial.table l.table;
}
