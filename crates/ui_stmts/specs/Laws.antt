-- The readers of statements and files of each budget read exactly the forms of the grammar.
use Rattle.std.specs.Prelude.{◌≡◌, ◌⊎◌, ℕ, suc, ◌≤◌, false, List, ◌++◌, Ok, Err}
use Rattle.ui_scan.specs.declared.kind.TokenKind.TheVariants.{RBrace, RBracket, Semi}
use Rattle.ui_tree.specs.Tree.{Tree, Groups}
use Rattle.ui_tree.specs.Stmt.{Stmt}
use Rattle.ui_grammar.specs.Word.{Word, Mark}
use Rattle.ui_grammar.specs.Both.{is_length}
use Rattle.ui_grammar.specs.Spells.{Spells}
use Rattle.ui_grammar.specs.Fits.{plain, Fits}
use Rattle.ui_grammar.specs.Statement.{SpellsStmt, FitsStmt, stmt_depth, is_empty}
use Rattle.ui_grammar.specs.Declaration.{SpellsTypeParams, FitsTypeParams}
use Rattle.ui_grammar.specs.Parse.{HasFile}
use Rattle.ui_parse.specs.Exact.{ReadsExactly}
use Rattle.ui_stmts.specs.Common.{Sized}
use Rattle.ui_stmts.specs.Stmts.{stmt_readers}
use Rattle.ui_stmts.specs.Decls.{whole_file}

abbrev pub ReadsFiles : Type 0
ReadsFiles = (room : ℕ) → ReadsExactly (HasFile (suc room)) (whole_file room) (λ f. f)

-- ---- statements

-- a statement with words, within a budget
pub record FitsBudget (b : ℕ) (t : Stmt) : Type 0 where
  pub fits : FitsStmt t plain
  pub words : is_empty t ≡ false
  pub shallow : stmt_depth t ≤ b

-- what follows a statement: a semicolon or a closing brace
abbrev pub EndsAStmt : List Word → Type 0
EndsAStmt ts = ((a : List Word) × Mark Semi ts a) ⊎ ((a : List Word) × Mark RBrace ts a)

-- what was taken begins a statement, whatever is left
pub record BeginsStmt (budget : ℕ) (ts rest : List Word) : Type 0 where
  pub front : List Word
  pub parts : ts ≡ front ++ rest
  pub more : List Word
  pub goes_on : (k : List Word) → (t : Stmt) × SpellsStmt t (front ++ (more ++ k)) k × FitsBudget budget t

pub record ReadsStmt (budget : ℕ) : Type 0 where
  pub found : (ts : List Word) (x : Sized Stmt) (rest : List Word) → (stmt_readers budget).stmt ts ≡ Ok (x, rest) → SpellsStmt x.of ts rest × FitsBudget budget x.of × (stmt_depth x.of ≡ x.depth)
  -- A fault stands where nothing was taken, or behind words with which a statement begins.
  pub fault : (ts rest : List Word) → (stmt_readers budget).stmt ts ≡ Err rest → (ts ≡ rest) ⊎ BeginsStmt budget ts rest
  pub every : (ts rest : List Word) (t : Stmt) → SpellsStmt t ts rest → FitsBudget budget t → EndsAStmt rest → (x : Sized Stmt) × ((stmt_readers budget).stmt ts ≡ Ok (x, rest)) × (x.of ≡ t)

abbrev pub ReadsStmts : Type 0
ReadsStmts = (budget : ℕ) → ReadsStmt budget

-- ---- behind `type N [`: no text up to the bracket is a length and type parameters at once

abbrev pub NoBoth : Type 0
NoBoth = (e : Tree) (gs : Groups) (ts m c d : List Word) → Spells e ts m → Mark RBracket m c → Fits e plain → SpellsTypeParams (is_length gs) gs ts d → FitsTypeParams gs → ⊥
