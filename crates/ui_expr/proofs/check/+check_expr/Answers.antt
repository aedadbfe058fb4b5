use Rattle.std.proofs.Common.{ap, ◌∙◌}
use Rattle.ui_tree.specs.View.{view, kept}
use Rattle.ui_tree.specs.Views.{seen_Selector}
use Rattle.ui_scopes.specs.Scopes.{shown_file}
use Rattle.ui_scopes.specs.Standing.{Stands-grown, world-kept}
use Rattle.ui_expr.proofs.FormLemmas.{selector_step}
use Rattle.ui_expr.proofs.check.+check_expr.Goals as goal

pub returns-in-Literal-clause-kept : goal.returns-in-Literal-clause-kept
returns-in-Literal-clause-kept g t c =
    Stands-grown c.literal_operand.ensures.grows c.requires.env

pub returns-in_ok-x-in-Selector-clause-answer :
    goal.returns-in_ok-x-in-Selector-clause-answer
returns-in_ok-x-in-Selector-clause-answer g t c =
    selector_step _ _ _ _ _ _ _ _ _ _ _ _
    (ap view c.in-Selector.is
    ∙ seen_Selector kept c.in-Selector.spot c.in-Selector.of c.in-Selector.member)
    (ap view c.get-in-Selector.ensures)
    c.in_ok-x-in-Selector.ensures.answer.1
    (world-kept c.in_ok-x-in-Selector.ensures.kept)
    (shown_file c.args.table.now c.args.scope.now)
    c.selected.ensures.answer
