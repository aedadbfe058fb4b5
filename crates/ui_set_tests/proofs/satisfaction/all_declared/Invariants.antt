use Rattle.ui_types.specs.Table.{Grows}
use Rattle.ui_types.specs.Decls.{AreDecls}
use Rattle.ui_set_tests.proofs.satisfaction.all_declared.Given as goal

abbrev pub invariant-loop-row : goal.invariant-loop-row
invariant-loop-row l = record {
  made : AreDecls l.table l.decls.items;
  grows : Grows l.initial.table l.table;
}
