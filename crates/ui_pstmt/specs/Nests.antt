-- A function value that reads statements with one level less.
use Rattle.std.specs.Prelude.{ℕ, List, Result}
use Rattle.std.specs.declared.alloc.Global.{Global}
use denote.Ref.{MutBor}
use Rattle.ui_grammar.specs.Word.{Word}
use Rattle.ui_tree.specs.Stmt.{Stmt}
use Rattle.ui_tree.specs.declared.stmt.StmtTree.{StmtTree}
use Rattle.ui_parse.specs.declared.fault.ParseError.{ParseError}
use Rattle.ui_parse.specs.Reader.{Reader}
use Rattle.ui_parse.specs.View.{Reads}
use Rattle.ui_stmts.specs.Common.{Sized}
use Rattle.ui_stmts.specs.Stmts.{NestedStmt, stmt_readers}
use Rattle.ui_psimple.specs.declared.deep.Deep.{Deep}
use Rattle.ui_pstmt.specs.declared.grammar.Begun.{Begun}
use Rattle.ui_pstmt.specs.declared.grammar.Begun.TheVariants.{Nothing, If, Brace}
use Rattle.ui_psimple.specs.Seen.{see_stmt}

-- the reader of a statement of which so much has been taken
abbrev pub stmt_in : NestedStmt → Begun → Reader (Sized Stmt)
stmt_in n Nothing = n.stmt
stmt_in n (If s) = n.branch s
stmt_in n (Brace s) = n.block s

pub record Nests (room : ℕ)
    (pre : Global → MutBor (List Word) → ℕ → Begun → Type 0)
    (post : Global → MutBor (List Word) → ℕ → Begun → Result (Deep StmtTree) ParseError → MutBor (List Word) → Type 0) : Type 0 where
  pub callable : (alloc : Global) (old : MutBor (List Word)) (b : Begun) → pre alloc old room b
  pub reads : (alloc : Global) (old new : MutBor (List Word)) (b : Begun) (r : Result (Deep StmtTree) ParseError) → post alloc old room b r new
      → Reads see_stmt (stmt_in (stmt_readers room) b old.now) r new.now
