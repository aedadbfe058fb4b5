use Rattle.ui_tree.specs.StmtView.{decl_view}
use Rattle.ui_taken.specs.Taken.{decl_form}
use Rattle.ui_taken.proofs.FirstLemmas.{Looked}
use Rattle.ui_taken.proofs.decls.decls_form.Given as goal

abbrev pub invariant-loop-decl : goal.invariant-loop-decl
invariant-loop-decl l = Looked (decl_form l.taken) decl_view l.list l.decl-index
