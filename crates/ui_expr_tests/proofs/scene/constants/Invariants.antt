use Rattle.ui_types.specs.Table.{Grows}
use Rattle.ui_types.specs.Decls.{AreDecls}
use Rattle.ui_expr_tests.proofs.scene.constants.Given as goal

abbrev pub invariant-loop-path : goal.invariant-loop-path
invariant-loop-path l = record {
  valid : AreDecls l.table l.decls.items;
  grows : Grows l.initial.table l.table;
}
