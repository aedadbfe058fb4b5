-- The clauses of a switch, as its statement shows them and as they are read.
use Rattle.std.proofs.Common.{◌≡◌, List, [], ◌∷◌, map, refl, ap}
use Rattle.ui_tree.specs.declared.stmt.Clause.{Clause}
use Rattle.ui_tree.specs.declared.stmt.StmtTree.{StmtTree}
use Rattle.ui_tree.specs.Stmt.{Clauses, clause_and}
use Rattle.ui_tree.specs.StmtView.{maybe_trees, stmts, clause_with, clauses, stmt_view}
use Rattle.ui_stmts.specs.Stmts.{clauses_of}
use Rattle.ui_pstmt.specs.Seen.{see_open}

pub clauses_are : (cs : List (Clause StmtTree)) → clauses (map (clause_with stmt_view) cs) ≡ clauses_of (map see_open cs)
clauses_are [] = refl
clauses_are (c ∷ cs) = ap (λ (rest : Clauses). clause_and c.spot (maybe_trees c.values) (stmts (map stmt_view c.stmts)) rest) (clauses_are cs)
