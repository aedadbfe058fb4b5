-- What the reader of a statement reads, by the grammar alone.
use Rattle.std.proofs.Common.{◌≡◌, ◌⊎◌, inl, inr, ℕ, List, Ok, Err}
use Rattle.ui_tree.specs.Stmt.{Stmt}
use Rattle.ui_grammar.specs.Word.{Word}
use Rattle.ui_grammar.specs.Statement.{SpellsStmt, stmt_depth}
use Rattle.ui_parse.proofs.Outcomes.{holds_at}
use Rattle.ui_syntax.proofs.ByBudget.{Stops}
use Rattle.ui_stmts.specs.Common.{Sized}
use Rattle.ui_stmts.specs.Stmts.{stmt_readers}
use Rattle.ui_stmts.specs.Laws.{FitsBudget, EndsAStmt, BeginsStmt, ReadsStmts}
use Rattle.ui_stmts.proofs.ByBudget.{StmtForm, whole, any}
use Rattle.ui_stmts.proofs.SoundStmts.{stmts_sound}
use Rattle.ui_stmts.proofs.Complete.{stmts_complete}

module _ (budget : ℕ) where
  stops : (ts rest : List Word) → Stops (StmtForm whole any budget) ts rest → (ts ≡ rest) ⊎ BeginsStmt budget ts rest
  stops ts rest (inl e) = inl e
  stops ts rest (inr g) = inr (record { front = g.front; parts = g.parts; more = g.more; goes_on = λ k. let f = g.spells k in (f.tree, f.spells, f.fits) })

  found : (ts : List Word) (x : Sized Stmt) (rest : List Word) → (stmt_readers budget).stmt ts ≡ Ok (x, rest) → SpellsStmt x.of ts rest × FitsBudget budget x.of × (stmt_depth x.of ≡ x.depth)
  found ts x rest e = let h = (holds_at ((stmts_sound budget).stmt ts) e).holds in (h.spells, h.fits, h.sized)

  fault : (ts rest : List Word) → (stmt_readers budget).stmt ts ≡ Err rest → (ts ≡ rest) ⊎ BeginsStmt budget ts rest
  fault ts rest e = stops ts rest (holds_at ((stmts_sound budget).stmt ts) e).holds

  every : (ts rest : List Word) (t : Stmt) → SpellsStmt t ts rest → FitsBudget budget t → EndsAStmt rest → (x : Sized Stmt) × ((stmt_readers budget).stmt ts ≡ Ok (x, rest)) × (x.of ≡ t)
  every ts rest t s f ends = let r = (stmts_complete budget).stmt ts rest t s f ends in (r.read, r.is, r.tree)

pub reads_stmts : ReadsStmts
reads_stmts budget = record { found = found budget; fault = fault budget; every = every budget }
