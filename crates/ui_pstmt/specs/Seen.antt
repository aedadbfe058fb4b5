-- What the code has read, as its readers give it.
use Rattle.std.specs.Prelude.{ℕ, List, map, Option}
use Rattle.std.specs.Option.{option_map}
use Rattle.ui_tree.specs.declared.stmt.Block.{Block}
use Rattle.ui_tree.specs.declared.stmt.Clause.{Clause}
use Rattle.ui_tree.specs.declared.stmt.StmtTree.{StmtTree}
use Rattle.ui_tree.specs.Stmt.{Stmt, Braces, Clauses as AllClauses}
use Rattle.ui_tree.specs.StmtView.{maybe_trees, maybe_stmt, block_view, clause_with, clauses, stmt_view}
use Rattle.ui_syntax.specs.Types.{Listed}
use Rattle.ui_parse.specs.declared.turn.Turn.{Turn}
use Rattle.ui_parse.specs.declared.turn.Turn.TheVariants.{Done, More}
use Rattle.ui_stmts.specs.Common.{Sized, sized}
use Rattle.ui_stmts.specs.Stmts.{NestedStmt, Open, Body, Init, Ended, ended}
pub use Rattle.ui_psimple.specs.Seen.{see_deep, see_list}
use Rattle.ui_psimple.specs.declared.deep.Deep.{Deep}
use Rattle.ui_pstmt.specs.declared.braces.BodyTurn.{BodyTurn}
use Rattle.ui_pstmt.specs.declared.braces.BodyTurn.TheVariants as turn
use Rattle.ui_pstmt.specs.declared.clauses.Clauses.{Clauses}

abbrev pub see_stmts : Deep (List StmtTree) → Listed Stmt
see_stmts d = record { items = map stmt_view d.of; depth = d.depth }

abbrev pub see_block : Deep (Block StmtTree) → Sized Braces
see_block d = sized (block_view d.of) d.depth

abbrev pub see_init : (room : ℕ) (inner : NestedStmt) → Deep (Option StmtTree) → Init room inner
see_init room inner d = record { of = maybe_stmt (option_map stmt_view d.of); depth = d.depth }

-- ---- turns of loops: what is finished, or goes on

pub data Step (A V : Type 0) : Type 0 where
  finished : A → Step A V
  going : V → Step A V

abbrev pub see_body_turn : (room : ℕ) (inner : NestedStmt) → BodyTurn → Step (Ended room inner) (Listed Stmt)
see_body_turn room inner (turn.Closed l e) = finished (ended room inner (see_stmts l) e)
see_body_turn room inner (turn.More l) = going (see_stmts l)

-- ---- clauses

abbrev pub see_open : Clause StmtTree → Open
see_open c = record { spot = c.spot; values = maybe_trees c.values; stmts = record { items = map stmt_view c.stmts; depth = 0 } }

abbrev pub see_clauses : Clauses → Body
see_clauses b = record { closed = map see_open b.closed; open_one = option_map see_open b.last; depth = b.depth }

abbrev pub see_clause_turn : Turn Clauses → Step Body Body
see_clause_turn (Done b) = finished (see_clauses b)
see_clause_turn (More b) = going (see_clauses b)

abbrev pub see_clause_list : Deep (List (Clause StmtTree)) → Sized AllClauses
see_clause_list d = sized (clauses (map (clause_with stmt_view) d.of)) d.depth
