use Rattle.ui_tree.specs.StmtView.{value_view}
use Rattle.ui_taken.specs.Taken.{const_form}
use Rattle.ui_taken.proofs.FirstLemmas.{Looked}
use Rattle.ui_taken.proofs.decls.const_group.Given as goal

abbrev pub invariant-loop-spec : goal.invariant-loop-spec
invariant-loop-spec l = Looked (const_form l.taken) value_view l.list l.spec-index
