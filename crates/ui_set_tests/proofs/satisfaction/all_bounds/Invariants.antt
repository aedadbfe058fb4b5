use Rattle.ui_types.specs.Table.{AreIds, Grows}
use Rattle.ui_set_tests.proofs.satisfaction.all_bounds.Given as goal

abbrev pub invariant-loop-text : goal.invariant-loop-text
invariant-loop-text l = record {
  made : AreIds l.table l.bounds.items;
  grows : Grows l.initial.table l.table;
}
