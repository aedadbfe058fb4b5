use Rattle.ui_taken.proofs.FirstLemmas.{Looked}
use Rattle.ui_tree.specs.View.{type_view}
use Rattle.ui_tree.specs.declared.part.Group.{Group}
use Rattle.ui_tree.specs.declared.expr.TypeExpr.{TypeExpr}
use Rattle.ui_taken.specs.Taken.{type_form}
use Rattle.ui_taken.proofs.types.+types.Given as goal

abbrev pub invariant-groups_form-loop-group : goal.invariant-groups_form-loop-group
invariant-groups_form-loop-group l = Looked type_form (λ (g : Group TypeExpr). type_view g.of)
    l.list l.group-index
