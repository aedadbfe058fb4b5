use Rattle.std.proofs.Common.{rules}
use Rattle.ui_types.specs.Table.{AreIds}
use Rattle.ui_expr_tests.proofs.SceneLemmas.{IsScope-made}
use Rattle.ui_expr_tests.proofs.scene.scope.Goals as goal

pub returns-clause-made : goal.returns-clause-made
returns-clause-made c =
    let none : AreIds c.maybe_block.new.table c.new-bounds.result = search rules in
    IsScope-made _ _ c.in_ok-levels.ensures none
