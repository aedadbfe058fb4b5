use Rattle.ui_tree.specs.View.{view}
use Rattle.ui_taken.specs.Taken.{expr_form}
use Rattle.ui_taken.proofs.FirstLemmas.{Looked}
use Rattle.ui_taken.proofs.exprs.exprs_form.Given as goal

abbrev pub invariant-loop-tree : goal.invariant-loop-tree
invariant-loop-tree l = Looked expr_form view l.list l.tree-index
