use Rattle.ui_expr_tests.specs.Meanings.{IsLevel}
use Rattle.ui_expr_tests.proofs.scene.put_constants.Given as goal

abbrev pub invariant-loop-path : goal.invariant-loop-path
invariant-loop-path l = IsLevel l.table l.level
