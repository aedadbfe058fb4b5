use Rattle.ui_expr_tests.specs.Meanings.{IsLevel}
use Rattle.ui_expr_tests.proofs.scene.universe.Given as goal

abbrev pub invariant-loop-text : goal.invariant-loop-text
invariant-loop-text l = IsLevel l.table l.level
