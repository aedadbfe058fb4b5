-- What the parsers answer, by the grammar alone.
use Rattle.std.specs.Prelude.{◌≡◌, ℕ, ◌+◌, ◌-◌, ◌≤◌, Bool, true, false, List, length, drop, Result, Ok, Err}
use Rattle.ui_scan.specs.declared.kind.Token.{Token}
use Rattle.ui_grammar.specs.Word.{Word, words}
use Rattle.ui_grammar.specs.Fits.{Place, in_header, plain}
use Rattle.ui_grammar.specs.Parse.{IsFound, IsFault}
use Rattle.ui_pexpr.specs.declared.fault.ParseFault.{ParseFault}
use Rattle.ui_pexpr.specs.declared.fault.ParseFault.TheVariants.{NoMemory}
use Rattle.ui_pexpr.specs.Faults.{StandsAt, IsKind}
use Rattle.ui_pexpr.specs.Forms.{form_at}

-- The longest list of words from the place with which a form begins is itself one, this tree, and behind it stands the
-- place that is told.
pub record IsParsed {T : Type 0} (Has : List Word → T → Type 0) (ws : List Word) (from : ℕ) (t : T) (at : ℕ) : Type 0 where
  pub after : from ≤ at
  pub inside : at ≤ length ws
  pub found : IsFound Has (drop from ws) t (at - from)

-- It is none, and the fault stands at the word behind it, and is of its kind.
pub record IsFaulty {T : Type 0} (Has : ℕ → List Word → T → Type 0) (limit : ℕ) (bytes : List ℕ) (ts : List Token) (from : ℕ) (f : ParseFault) : Type 0 where
  pub count : ℕ
  pub fault : IsFault (Has limit) (drop from (words bytes ts)) count
  pub stands : StandsAt bytes (drop (from + count) ts) f
  pub kind : IsKind Has form_at (drop from (words bytes ts)) count f

-- A tree or a fault, or want of memory.
abbrev pub Parsed : {X T : Type 0} → (X → T) → (ℕ → List Word → T → Type 0) → ℕ → List ℕ → List Token → ℕ → Result (X × ℕ) ParseFault → Type 0
Parsed see Has limit bytes ts from (Ok x) = IsParsed (Has limit) (words bytes ts) from (see x.0) x.1
Parsed see Has limit bytes ts from (Err f) = (f ≡ NoMemory → ⊥) → IsFaulty Has limit bytes ts from f

-- where an expression stands
abbrev pub place : Bool → Place
place true = in_header
place false = plain
