use Rattle.ui_types.specs.Table.{AreIds, Grows}
use Rattle.ui_infer_tests.proofs.spelling.read.Given as goal

abbrev pub invariant-loop-letter : goal.invariant-loop-letter
invariant-loop-letter l = record {
  ids : AreIds l.table l.stack.items;
  grows : Grows
      l.initial.table l.table;
}
