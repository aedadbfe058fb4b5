use Rattle.std.proofs.Common.{sym, ◌∙◌}
use Rattle.ui_operand.specs.Shown.{shown_constant}
use Rattle.ui_operand.proofs.PairLemmas.{equality_matched}
use Rattle.ui_operand.proofs.constants.matched.Goals as goal

pub returns-then-is_equality-clause-answer : goal.returns-then-is_equality-clause-answer
returns-then-is_equality-clause-answer c =
    equality_matched c.args.file.now c.args.at c.args.op
    (shown_constant c.args.table.now c.args.x) (shown_constant c.args.table.now c.args.y) _ _
    (sym c.is_equality.ensures ∙ c.if-is_equality.true)
    (c.assignable.ensures _ c.paired-pair.ensures.answer)
