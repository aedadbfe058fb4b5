-- Readers: what they read from the front of a list of words, or where no form of theirs goes on.
use Rattle.std.specs.Prelude.{ℕ, zero, suc, Bool, true, false, List, [], ◌∷◌, length, Option, Some, None, Result, Ok, Err, nat_le, if◌then◌else◌}
use Rattle.ui_base.specs.declared.value.Spot.{Spot}
use Rattle.ui_scan.specs.declared.kind.TokenKind.{TokenKind}
use Rattle.ui_tree.specs.declared.part.Placed.{Placed}
use Rattle.ui_grammar.specs.Word.{Word, ident, lit, mark}
use Rattle.ui_parse.specs.Kind.{is_kind}

-- what was read with the words that are left, or the words from the fault on
abbrev pub Outcome : Type 0 → Type 0
Outcome A = Result (A × List Word) (List Word)

abbrev pub Reader : Type 0 → Type 0
Reader A = List Word → Outcome A

abbrev pub and_then : {A B : Type 0} → Outcome A → (A → Reader B) → Outcome B
and_then (Ok p) f = f p.0 p.1
and_then (Err ws) f = Err ws

-- the words that are left, or those from the fault on
abbrev pub rest_of : {A : Type 0} → Outcome A → List Word
rest_of (Ok p) = p.1
rest_of (Err ws) = ws

infixl 10 ◌>>=◌
abbrev pub ◌>>=◌ : {A B : Type 0} → Reader A → (A → Reader B) → Reader B
p >>= f = λ ws. and_then (p ws) f

abbrev pub pure : {A : Type 0} → A → Reader A
pure a = λ ws. Ok (a, ws)

abbrev pub refuse : {A : Type 0} → Reader A
refuse = λ ws. Err ws

-- ---- single words: all that a reader does with the first word is to take it, where it passes a test

abbrev pub first : {B : Type 0} → (Word → Option B) → List Word → Option B
first test [] = None
first test (w ∷ ws) = test w

abbrev pub tail : List Word → List Word
tail [] = []
tail (w ∷ ws) = ws

abbrev pub taken : {A B : Type 0} → Option B → (B → Reader A) → Reader A → Reader A
taken None on other ws = other ws
taken (Some b) on other ws = on b (tail ws)

-- takes the first word where it passes, and goes on with what the test gives; else goes on by the other reader
unfoldable pub take_by : {A B : Type 0} → (Word → Option B) → (B → Reader A) → Reader A → Reader A
take_by test on other = λ ws. taken (first test ws) on other ws

-- as this reader, where the first word passes and stays; else as the other
abbrev pub look : {A : Type 0} → Bool → Reader A → Reader A → Reader A
look b on other ws = if b then on ws else other ws

abbrev pub spot_if : Bool → Spot → Option Spot
spot_if true s = Some s
spot_if false s = None

-- the spot of this keyword or operator
abbrev pub marked : TokenKind → Word → Option Spot
marked k (ident p) = None
marked k (lit l s v) = None
marked k (mark found s) = spot_if (is_kind found k) s

abbrev pub named : Word → Option Placed
named (ident p) = Some p
named (lit l s v) = None
named (mark found s) = None

-- takes the mark, where it comes next
unfoldable pub eat : TokenKind → Reader (Option Spot)
eat k = take_by (marked k) (λ s. pure (Some s)) (pure None)

unfoldable pub expect : TokenKind → Reader Spot
expect k = take_by (marked k) pure refuse

unfoldable pub expect_name : Reader Placed
expect_name = take_by named pure refuse

-- goes on where the form has room for so many levels
abbrev pub within : {A : Type 0} → ℕ → ℕ → Reader A → Reader A
within least budget go = if nat_le least budget then go else refuse

-- ---- lists: a state takes one part after the other. The number bounds the turns; each but the first takes a word.

-- { separator Part }
unfoldable pub chain_from : {S : Type 0} → TokenKind → (S → Reader S) → ℕ → S → Reader S
chain_from separator step zero s = refuse
chain_from separator step (suc n) s = take_by (marked separator) (λ _. step s >>= chain_from separator step n) (pure s)

unfoldable pub chain : {S : Type 0} → TokenKind → (S → Reader S) → S → Reader S
chain separator step s = λ ws. chain_from separator step (suc (length ws)) s ws

-- how a list ends: at which states it may, and behind which nothing but the end can come
pub record Ending (S : Type 0) : Type 0 where
  pub may : S → Bool
  pub must : S → Bool

module _ {S : Type 0} (separator close : TokenKind) (ending : Ending S) (step : S → Reader S) where
  abbrev pub closing : S → Reader S
  closing s = if ending.may s then (do _ ← expect close; pure s) else refuse

  abbrev pub behind : (S → Reader S) → S → Reader S
  behind again s = if ending.must s then (do _ ← eat separator; closing s) else take_by (marked separator) (λ _. again s) (closing s)

  -- [ Part { separator Part } [ separator ] ] close
  unfoldable pub parts_from : ℕ → S → Reader S
  parts_from zero s = refuse
  parts_from (suc n) s =
      if ending.may s then take_by (marked close) (λ _. pure s) (step s >>= behind (parts_from n))
      else (step s >>= behind (parts_from n))

  unfoldable pub parts : S → Reader S
  parts s = λ ws. parts_from (suc (length ws)) s ws

  -- what follows a first part
  unfoldable pub more_parts : S → Reader S
  more_parts s = behind parts s
