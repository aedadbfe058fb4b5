-- The turns of the loops over statements and clauses, as the code takes them.
use Rattle.std.specs.Prelude.{ℕ, suc, max, Bool, true, false, ◌&&◌, List, [], length, Option, Some, None, nat_le, if◌then◌else◌}
use Rattle.ui_base.specs.declared.value.Spot.{Spot}
use Rattle.ui_scan.specs.declared.kind.TokenKind.TheVariants.{RBrace, Semi, Colon, Case, Default}
use Rattle.ui_tree.specs.Stmt.{no_trees, given_trees, Stmt, Braces, braces, Clauses}
use Rattle.ui_tree.specs.StmtView.{stmts}
use Rattle.ui_tree.specs.Tree.{Tree}
use Rattle.ui_tree.specs.View.{trees}
use Rattle.ui_parse.specs.Reader.{Reader, ◌>>=◌, pure, refuse, take_by, marked, expect}
use Rattle.ui_syntax.specs.Types.{Listed, add}
use Rattle.ui_stmts.specs.Common.{Sized, sized, maybe, exprs}
use Rattle.ui_stmts.specs.Stmts.{NestedStmt, Body, no_clauses, with_open, clauses_of, open_clause, add_stmt, is_open, Ended, ended, clauses_from}
use Rattle.ui_psimple.specs.Parts.{no_statement}
use Rattle.ui_pstmt.specs.Seen.{Step, finished, going}

abbrev pub after_step : {A V : Type 0} → (V → Reader A) → Step A V → Reader A
after_step again (finished a) = pure a
after_step again (going v) = again v

abbrev pub added : Listed Stmt → Sized Stmt → Listed Stmt
added l s = add l s.of s.depth

abbrev pub block_of : Spot → Listed Stmt → Spot → Sized Braces
block_of s l e = sized (braces s (stmts l.items) e) l.depth

abbrev pub added_in : Body → Sized Stmt → Body
added_in b s = add_stmt b s.of s.depth

abbrev pub list_of : Body → Sized Clauses
list_of b = sized (clauses_of (with_open b.closed b.open_one)) b.depth

-- behind a statement with words in a clause
abbrev pub behind_clause_words : Body → Reader (Step Body Body)
behind_clause_words b = take_by (marked Semi) (λ _. pure (going b)) (expect RBrace >>= (λ _. pure (finished b)))

-- behind `default`
abbrev pub default_opened : Body → Spot → Reader (Step Body Body)
default_opened b s = expect Colon >>= (λ _. pure (going (open_clause b s no_trees 0)))

-- behind `case`
abbrev pub values_opened : Body → Spot → Listed Tree → Reader (Step Body Body)
values_opened b s es = expect Colon >>= (λ _. pure (going (open_clause b s (given_trees (trees es.items)) es.depth)))

abbrev pub case_opened : ℕ → Body → Spot → Reader (Step Body Body)
case_opened room b s = exprs room false >>= (λ es. values_opened b s es)

module _ (room : ℕ) (inner : NestedStmt) where
  -- ---- statements in braces

  -- behind a statement with words
  abbrev pub behind_words : Listed Stmt → Reader (Step (Ended room inner) (Listed Stmt))
  behind_words l = take_by (marked Semi) (λ _. pure (going l)) (expect RBrace >>= (λ e. pure (finished (ended room inner l e))))

  abbrev pub behind_stmt : Listed Stmt → Option (Sized Stmt) → Reader (Step (Ended room inner) (Listed Stmt))
  behind_stmt l None = take_by (marked Semi) (λ _. pure (going (added l no_statement))) refuse
  behind_stmt l (Some s) = behind_words (added l s)

  abbrev pub stmt_turn : Listed Stmt → Reader (Step (Ended room inner) (Listed Stmt))
  stmt_turn l = if nat_le 1 room then (maybe inner.stmt >>= behind_stmt l) else refuse

  abbrev pub body_turn : Listed Stmt → Reader (Step (Ended room inner) (Listed Stmt))
  body_turn l = take_by (marked RBrace) (λ e. pure (finished (ended room inner l e))) (stmt_turn l)

  -- ---- clauses

  abbrev pub behind_clause_stmt : Body → Option (Sized Stmt) → Reader (Step Body Body)
  behind_clause_stmt b None = take_by (marked Semi) (λ _. pure (going (added_in b no_statement))) refuse
  behind_clause_stmt b (Some s) = behind_clause_words (added_in b s)

  unfoldable pub stmt_part : Body → Reader (Step Body Body)
  stmt_part b = if is_open b.open_one && nat_le 1 room then (maybe inner.stmt >>= behind_clause_stmt b) else refuse

  unfoldable pub default_part : Body → Reader (Step Body Body)
  default_part b = take_by (marked Default) (λ s. default_opened b s) (stmt_part b)

  unfoldable pub case_part : Body → Reader (Step Body Body)
  case_part b =
      if nat_le 1 room then take_by (marked Case) (λ s. case_opened room b s) (default_part b) else default_part b

  abbrev pub clause_turn : Body → Reader (Step Body Body)
  clause_turn b = take_by (marked RBrace) (λ _. pure (finished b)) (case_part b)

  abbrev pub all_clauses : Reader Body
  all_clauses ws = clauses_from room inner (suc (length ws)) no_clauses ws
