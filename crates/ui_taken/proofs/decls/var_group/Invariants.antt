use Rattle.ui_tree.specs.Stmt.{ValueGroup}
use Rattle.ui_tree.specs.StmtView.{value_view}
use Rattle.ui_taken.specs.Taken.{var_form, names_spot}
use Rattle.ui_taken.proofs.FirstLemmas.{Looked}
use Rattle.ui_taken.proofs.decls.var_group.Given as goal

abbrev pub invariant-loop-spec : goal.invariant-loop-spec
invariant-loop-spec l = Looked (λ (v : ValueGroup). var_form (names_spot l.word v.names) v)
    value_view l.list l.spec-index
