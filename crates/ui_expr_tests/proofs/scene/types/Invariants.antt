use Rattle.ui_types.specs.Table.{Grows}
use Rattle.ui_types.specs.Decls.{AreDecls}
use Rattle.ui_expr_tests.proofs.scene.types.Given as goal

abbrev pub invariant-loop-text : goal.invariant-loop-text
invariant-loop-text l = record {
  valid : AreDecls l.table l.decls.items;
  grows : Grows l.initial.table l.table;
}
