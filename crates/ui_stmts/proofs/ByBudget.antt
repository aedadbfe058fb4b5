-- What readers of statements of a budget read, and that they read it: laws that each budget has from the one below it.
use Rattle.std.specs.Prelude.{◌≡◌, ℕ, ◌≤◌, true, List, ◌∷◌, Ok, Err}
use Rattle.ui_base.specs.declared.value.Spot.{Spot}
use Rattle.ui_scan.specs.declared.kind.TokenKind.TheVariants.{LBrace, If}
use Rattle.ui_tree.specs.Stmt.{Stmt}
use Rattle.ui_grammar.specs.Word.{Word, mark}
use Rattle.ui_grammar.specs.Statement.{SpellsStmt, stmt_depth, is_alternative}
use Rattle.ui_parse.specs.Reader.{Outcome}
use Rattle.ui_parse.proofs.Outcomes.{Holds}
use Rattle.ui_parse.proofs.Steady.{Steady}
use Rattle.ui_syntax.proofs.ByBudget.{Stops}
use Rattle.ui_stmts.specs.Common.{Sized}
use Rattle.ui_stmts.specs.Stmts.{NestedStmt}
use Rattle.ui_stmts.specs.Laws.{FitsBudget, EndsAStmt}

-- The form of a statement, behind words that were read before it.
pub record StmtForm (before : List Word → List Word) (P : Stmt → Type 0) (b : ℕ) (ts rest : List Word) : Type 0 where
  pub tree : Stmt
  pub spells : SpellsStmt tree (before ts) rest
  pub fits : FitsBudget b tree
  pub also : P tree

pub record IsStmtRead (before : List Word → List Word) (P : Stmt → Type 0) (b : ℕ) (ts : List Word) (x : Sized Stmt) (rest : List Word) : Type 0 where
  pub spells : SpellsStmt x.of (before ts) rest
  pub fits : FitsBudget b x.of
  pub also : P x.of
  pub sized : stmt_depth x.of ≡ x.depth

abbrev pub whole : List Word → List Word
whole ts = ts

abbrev pub behind_if : Spot → List Word → List Word
behind_if s ts = mark If s ∷ ts

abbrev pub behind_brace : Spot → List Word → List Word
behind_brace s ts = mark LBrace s ∷ ts

abbrev pub any : Stmt → Type 0
any t = Unit {0}

abbrev pub alternative : Stmt → Type 0
alternative t = is_alternative t ≡ true

-- An `if` has the depth 2 at least, and no reader comes to one with less.
pub record AreStmtsSound (b : ℕ) (n : NestedStmt) : Type 0 where
  pub stmt : (ts : List Word) → Holds (IsStmtRead whole any b ts) (Stops (StmtForm whole any b) ts) (n.stmt ts)
  pub branch : 2 ≤ b → (s : Spot) (ts : List Word) → Holds (IsStmtRead (behind_if s) alternative b ts) (Stops (StmtForm (behind_if s) alternative b) ts) (n.branch s ts)
  pub block : (s : Spot) (ts : List Word) → Holds (IsStmtRead (behind_brace s) alternative b ts) (Stops (StmtForm (behind_brace s) alternative b) ts) (n.block s ts)

pub record StmtReadsTo (o : Outcome (Sized Stmt)) (t : Stmt) (rest : List Word) : Type 0 where
  pub read : Sized Stmt
  pub is : o ≡ Ok (read, rest)
  pub tree : read.of ≡ t
  pub depth : read.depth ≡ stmt_depth t

pub record AreStmtsComplete (b : ℕ) (n : NestedStmt) : Type 0 where
  pub stmt : (ts rest : List Word) (t : Stmt) → SpellsStmt t ts rest → FitsBudget b t → EndsAStmt rest → StmtReadsTo (n.stmt ts) t rest
  pub branch : (s : Spot) (ts rest : List Word) (t : Stmt) → SpellsStmt t (mark If s ∷ ts) rest → FitsBudget b t → is_alternative t ≡ true → EndsAStmt rest → StmtReadsTo (n.branch s ts) t rest
  pub block : (s : Spot) (ts rest : List Word) (t : Stmt) → SpellsStmt t (mark LBrace s ∷ ts) rest → FitsBudget b t → is_alternative t ≡ true → EndsAStmt rest → StmtReadsTo (n.block s ts) t rest
  -- No statement begins with these, and nothing is taken.
  pub no_stmt : (ts : List Word) → EndsAStmt ts → n.stmt ts ≡ Err ts

pub record AreStmtsSteady (n : NestedStmt) : Type 0 where
  pub stmt : Steady n.stmt
  pub branch : (s : Spot) → Steady (n.branch s)
  pub block : (s : Spot) → Steady (n.block s)
