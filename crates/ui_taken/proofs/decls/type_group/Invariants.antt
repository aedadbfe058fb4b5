use Rattle.ui_tree.specs.Stmt.{TypeGroup}
use Rattle.ui_tree.specs.StmtView.{type_spec_view}
use Rattle.ui_taken.specs.Taken.{type_spec_form}
use Rattle.ui_taken.proofs.FirstLemmas.{Looked}
use Rattle.ui_taken.proofs.decls.type_group.Given as goal

abbrev pub invariant-loop-spec : goal.invariant-loop-spec
invariant-loop-spec l = Looked (λ (t : TypeGroup). type_spec_form t.name.spot t) type_spec_view
    l.list l.spec-index
