use Rattle.ui_types.specs.Table.{Grows}
use Rattle.ui_set_tests.specs.Desk.{IsDesk}
use Rattle.ui_set_tests.proofs.spelling.spelled.Given as goal

abbrev pub invariant-loop-letter : goal.invariant-loop-letter
invariant-loop-letter l = record {
  desk : IsDesk l.table l.desk;
  grows : Grows l.initial.table l.table;
}
