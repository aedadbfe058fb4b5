-- The readers of a budget, where it is none and where it is one more.
use Rattle.std.proofs.Common.{◌≡◌, ℕ, zero, suc, ◌-◌, List, Result, Err, refl, sym, subst, arith}
use Rattle.ui_grammar.specs.Word.{Word}
use Rattle.ui_tree.specs.declared.stmt.StmtTree.{StmtTree}
use Rattle.ui_parse.specs.declared.fault.ParseError.{ParseError}
use Rattle.ui_parse.specs.declared.fault.ParseError.TheVariants.{Fault}
use Rattle.ui_parse.specs.View.{Reads}
use Rattle.ui_stmts.specs.Stmts.{NestedStmt, stmt_readers, next_stmt, no_stmts}
use Rattle.ui_psimple.specs.declared.deep.Deep.{Deep}
use Rattle.ui_pstmt.specs.declared.grammar.Begun.{Begun}
use Rattle.ui_pstmt.specs.declared.grammar.Begun.TheVariants.{Nothing, If, Brace}
use Rattle.ui_psimple.specs.Seen.{see_stmt}
use Rattle.ui_pstmt.specs.Nests.{stmt_in}

readers_none : (b : ℕ) → b ≡ 0 → stmt_readers b ≡ no_stmts
unfolding stmt_readers
readers_none zero e = refl
readers_none (suc d) e = absurd (omega (arith, e))

readers_next : (b : ℕ) → (b ≡ 0 → ⊥) → stmt_readers b ≡ next_stmt (b - 1) (stmt_readers (b - 1))
unfolding stmt_readers
readers_next zero some = absurd (some refl)
readers_next (suc d) some = let e : suc d - 1 ≡ d = omega arith in rw e refl

none_reads : (x : Begun) (ws left : List Word) → left ≡ ws → Reads see_stmt (stmt_in no_stmts x ws) (Err Fault) left
none_reads Nothing ws left e = e
none_reads (If s) ws left e = e
none_reads (Brace s) ws left e = e

pub no_stmt : (b : ℕ) (x : Begun) (ws left : List Word) → b ≡ 0 → left ≡ ws → Reads see_stmt (stmt_in (stmt_readers b) x ws) (Err Fault) left
no_stmt b x ws left e f = subst (λ (n : NestedStmt). Reads see_stmt (stmt_in n x ws) (Err Fault) left) (sym (readers_none b e)) (none_reads x ws left f)

pub reads_stmt : (b : ℕ) (x : Begun) (ws : List Word) (r : Result (Deep StmtTree) ParseError) (left : List Word) → (b ≡ 0 → ⊥) → Reads see_stmt (stmt_in (next_stmt (b - 1) (stmt_readers (b - 1))) x ws) r left → Reads see_stmt (stmt_in (stmt_readers b) x ws) r left
reads_stmt b x ws r left some h = subst (λ (n : NestedStmt). Reads see_stmt (stmt_in n x ws) r left) (sym (readers_next b some)) h
