-- The readers of statements of each budget read what is there.
use Rattle.std.proofs.Common.{◌≡◌, ℕ, zero, suc, true, List, ◌∷◌, None, Ok, refl, ap, arith}
use Rattle.ui_base.specs.declared.value.Spot.{Spot}
use Rattle.ui_scan.specs.declared.kind.TokenKind.TheVariants.{LBrace, If}
use Rattle.ui_tree.specs.Stmt.{Stmt, block, branch, braces}
use Rattle.ui_grammar.specs.Word.{Word, mark}
use Rattle.ui_grammar.specs.Statement.{SpellsStmt, stmt_depth, is_alternative}
use Rattle.ui_parse.specs.Reader.{Outcome, first, marked}
use Rattle.ui_stmts.specs.Common.{Sized, sized}
use Rattle.ui_stmts.specs.Stmts.{NestedStmt, branch_stmt, block_stmt, no_stmts, next_stmt, stmt_readers}
use Rattle.ui_stmts.specs.Laws.{FitsBudget, EndsAStmt}
use Rattle.ui_stmts.proofs.ByBudget.{StmtReadsTo, AreStmtsComplete, AreStmtsSteady}
use Rattle.ui_stmts.proofs.SteadyStmt.{stmts_steady}
use Rattle.ui_stmts.proofs.CompleteSimple.{stmt_positive}
use Rattle.ui_stmts.proofs.CompleteStmt.{block_read, branch_is_read, stmt_read, stmt_none}

reads_to : {o : Outcome (Sized Stmt)} (t : Stmt) (rest : List Word) → o ≡ Ok (sized t (stmt_depth t), rest) → StmtReadsTo o t rest
reads_to t rest e = record { read = sized t (stmt_depth t); is = e; tree = refl; depth = refl }

no_depth : (t : Stmt) → FitsBudget 0 t → ⊥
no_depth t f = omega (arith, f.shallow, stmt_positive t)

nothing_complete : AreStmtsComplete 0 no_stmts
nothing_complete = record {
  stmt = λ ts rest t sp f ends. absurd (no_depth t f);
  branch = λ s ts rest t sp f alt ends. absurd (no_depth t f);
  block = λ s ts rest t sp f alt ends. absurd (no_depth t f);
  no_stmt = λ ts ends. refl;
}

-- a statement that may follow `else` begins with its own word
not_if : {s x : Spot} {ts us : List Word} → mark If s ∷ ts ≡ mark LBrace x ∷ us → ⊥
not_if {s = s} {ts = ts} e = clash (ap (first (marked If)) e)
  where
    clash : first (marked If) (mark If s ∷ ts) ≡ None → ⊥
    clash h = cc

not_brace : {s x : Spot} {ts us : List Word} → mark LBrace s ∷ ts ≡ mark If x ∷ us → ⊥
not_brace {s = s} {ts = ts} e = clash (ap (first (marked LBrace)) e)
  where
    clash : first (marked LBrace) (mark LBrace s ∷ ts) ≡ None → ⊥
    clash h = cc

module _ (room : ℕ) (inner : NestedStmt) (complete : AreStmtsComplete room inner) (steady : AreStmtsSteady inner) where
  branch_complete : (s : Spot) (ts rest : List Word) (t : Stmt) → SpellsStmt t (mark If s ∷ ts) rest → FitsBudget (suc room) t → is_alternative t ≡ true → EndsAStmt rest → StmtReadsTo (branch_stmt room inner s ts) t rest
  branch_complete s ts rest (branch x i e b o) sp f alt ends = reads_to (branch x i e b o) rest (branch_is_read room inner complete steady s x i e b o ts rest sp f.fits f.shallow ends)
  branch_complete s ts rest (block (braces x ss e)) sp f alt ends = absurd (not_if sp.2)
  branch_complete s ts rest _ sp f alt ends = absurd cc

  block_complete : (s : Spot) (ts rest : List Word) (t : Stmt) → SpellsStmt t (mark LBrace s ∷ ts) rest → FitsBudget (suc room) t → is_alternative t ≡ true → EndsAStmt rest → StmtReadsTo (block_stmt room inner s ts) t rest
  block_complete s ts rest (block b) sp f alt ends = reads_to (block b) rest (block_read room inner complete steady s b ts rest sp f.fits f.shallow)
  block_complete s ts rest (branch x i e b o) sp f alt ends = absurd (not_brace sp.4)
  block_complete s ts rest _ sp f alt ends = absurd cc

  pub next_complete : AreStmtsComplete (suc room) (next_stmt room inner)
  next_complete = record {
    stmt = λ ts rest t sp f ends. reads_to t rest (stmt_read room inner complete steady t ts rest f.words sp f.fits f.shallow ends);
    branch = branch_complete;
    block = block_complete;
    no_stmt = stmt_none room inner complete steady;
  }

pub stmts_complete : (d : ℕ) → AreStmtsComplete d (stmt_readers d)
unfolding stmt_readers
stmts_complete zero = nothing_complete
stmts_complete (suc d) = next_complete d (stmt_readers d) (stmts_complete d) (stmts_steady d)
