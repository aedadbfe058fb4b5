-- Which faults are faults of depth, by a second reading: with four levels more, or in files with a budget that is enough for as
-- many words.
use Rattle.std.specs.Prelude.{◌≡◌, ◌↔◌, ℕ, suc, ◌+◌, ◌-◌, ◌*◌, ◌<◌, ◌≤◌, Bool, List, [], ◌∷◌, length, take, Ok, Err}
use Rattle.ui_grammar.specs.Word.{Word}
use Rattle.ui_grammar.specs.Parse.{HasExpr, HasType, HasSig, HasFile, PassesDepth}
use Rattle.ui_parse.specs.Reader.{Outcome, Reader}
use Rattle.ui_syntax.specs.Read.{place_of, place_at, expr, type, sig}
use Rattle.ui_stmts.specs.Decls.{whole_file}

-- A reading goes farther than a fault that leaves these words: it succeeds, or its own fault leaves fewer.
abbrev pub IsFarther : {A : Type 0} → Outcome A → List Word → Type 0
IsFarther (Ok p) rest = Unit {0}
IsFarther (Err ws) rest = length ws < length rest

-- how many words a fault is behind
abbrev pub behind : List Word → List Word → ℕ
behind ws rest = length ws - length rest

-- Where the reader of a budget faults, the one that has four levels more reads farther where the fault is one of depth, and
-- nowhere else.
abbrev pub TellsByFour : {T X : Type 0} → (ℕ → List Word → T → Type 0) → (ℕ → Reader X) → Type 0
TellsByFour Has p = (budget : ℕ) (ws rest : List Word) → 1 ≤ budget → p budget ws ≡ Err rest → IsFarther (p (budget + 4) ws) rest ↔ PassesDepth Has ws (behind ws rest)

abbrev pub TellsExprs : Type 0
TellsExprs = (header : Bool) → TellsByFour (HasExpr (place_at (place_of header))) (λ budget. expr budget header)

abbrev pub TellsTypes : Type 0
TellsTypes = TellsByFour HasType type

abbrev pub TellsSigs : Type 0
TellsSigs = TellsByFour HasSig sig

-- ---- files

-- A reading of the same words that goes farther shows a fault of depth, whatever its limit.
abbrev pub ShowsDepth : Type 0
ShowsDepth = (room other : ℕ) (ws rest : List Word) → whole_file room ws ≡ Err rest → IsFarther (whole_file other ws) rest → PassesDepth HasFile ws (behind ws rest)

-- One whose limit is enough for the words shows each.
abbrev pub TellsFiles : Type 0
TellsFiles = (room other : ℕ) (ws rest : List Word) → whole_file room ws ≡ Err rest → 8 * length ws + 16 ≤ suc other → IsFarther (whole_file other ws) rest ↔ PassesDepth HasFile ws (behind ws rest)

-- The words up to the fault's own are enough: they are read farther where nothing of them is left.
abbrev pub TellsFronts : Type 0
TellsFronts = (room other : ℕ) (ws : List Word) (w : Word) (r : List Word) → whole_file room ws ≡ Err (w ∷ r) → 8 * (behind ws (w ∷ r) + 1) + 16 ≤ suc other
    → IsFarther (whole_file other (take (behind ws (w ∷ r) + 1) ws)) (w ∷ []) ↔ PassesDepth HasFile ws (behind ws (w ∷ r))

-- a fault of depth that so many levels more do not show
pub record Missed (more : ℕ) : Type 0 where
  pub room : ℕ
  pub words : List Word
  pub rest : List Word
  pub fault : whole_file room words ≡ Err rest
  pub no_farther : IsFarther (whole_file (room + more) words) rest → ⊥
  pub deep : PassesDepth HasFile words (behind words rest)
