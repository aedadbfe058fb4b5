-- What literals stand for. Go specification, "Integer literals", "Rune literals" and "String literals".
use Rattle.std.specs.Prelude.{◌≡◌, ◌≤◌, IsSome, ℕ, suc, zero, ◌-◌, Bool, true, false, not, ◌==◌, List, [], ◌∷◌, ◌++◌, take, drop, length, Option, None, Some, if◌then◌else◌, slice_index, filter, pos, unwrap_or}
use Rattle.ui_scan.specs.Digits.{number_of, greatest}
use Rattle.ui_scan.specs.Number.{radix}
use Rattle.ui_scan.specs.Escape.{escape, bytes_of}
use Rattle.ui_scan.specs.Literal.{rune_code}
use Rattle.ui_scan.specs.declared.escape.Escape.{Escape}
use Rattle.ui_scan.specs.declared.kind.Token.{Token}
use Rattle.ui_scan.specs.declared.kind.TokenKind.{TokenKind}
use Rattle.ui_scan.specs.declared.kind.TokenKind.TheVariants.{Int, Rune, Str}
use Rattle.ui_base.specs.declared.value.Value.{Value}
use Rattle.ui_base.specs.declared.value.Value.TheVariants as value

-- the bytes between two places
abbrev pub between : List ℕ → ℕ → ℕ → List ℕ
between bytes start end = take (end - start) (drop start bytes)

-- the number of a whole literal
abbrev pub int_value : List ℕ → ℕ
int_value text = number_of (radix text).base (drop (radix text).len text)

-- what stands between the quotes
abbrev pub inside : List ℕ → List ℕ
inside text = take (length text - 2) (drop 1 text)

abbrev pub after_escape : Option Escape → (ℕ → List ℕ) → List ℕ
after_escape None rest = []
after_escape (Some e) rest = bytes_of e.stands_for ++ rest (e.len - 1)

-- The bytes that a string's body stands for. The first ones, as many as said, belong to an escape that is done.
abbrev pub unescaped_from : ℕ → List ℕ → List ℕ
unescaped_from passed [] = []
unescaped_from (suc passed) (b ∷ bytes) = unescaped_from passed bytes
unescaped_from zero (b ∷ bytes) =
    if b == 92 then after_escape (escape 34 (b ∷ bytes)) (λ n. unescaped_from n bytes) else b ∷ unescaped_from zero bytes

unfoldable pub unescaped : List ℕ → List ℕ
unescaped bytes = unescaped_from 0 bytes

-- a raw string's bytes, without carriage returns (13)
abbrev pub raw_bytes : List ℕ → List ℕ
raw_bytes bytes = filter (λ b. not (b == 13)) bytes

-- a string's bytes: 96 is the quote of raw ones
abbrev pub string_value : List ℕ → List ℕ
string_value text = if slice_index text 0 == 96 then raw_bytes (inside text) else unescaped (inside text)

abbrev pub text_of : List ℕ → Token → List ℕ
text_of bytes t = between bytes t.start t.end

-- what a literal of this kind and text stands for
abbrev pub value_in : TokenKind → List ℕ → Value
value_in Int text = value.Whole (pos (int_value text))
value_in Rune text = value.Whole (pos (unwrap_or (rune_code (inside text)) 0))
value_in _ text = value.Str (string_value text)

-- a literal of this kind and text: a number within the greatest, one character or escape in quotes, or a string
abbrev pub IsLiteral : TokenKind → List ℕ → Type 0
IsLiteral Int text = int_value text ≤ greatest
IsLiteral Rune text = (2 ≤ length text) × IsSome (rune_code (inside text))
IsLiteral Str text = 2 ≤ length text
IsLiteral _ text = ⊥

-- whether a token is a literal
abbrev pub is_literal : TokenKind → Bool
is_literal Int = true
is_literal Rune = true
is_literal Str = true
is_literal _ = false

-- a literal token of these bytes
pub record IsLiteralOf (bytes : List ℕ) (t : Token) : Type 0 where
  pub ordered : t.start ≤ t.end
  pub within : t.end ≤ length bytes
  pub literal : IsLiteral t.kind (text_of bytes t)

-- a token of these bytes, if it is a literal
abbrev pub IsIfLiteral : List ℕ → Token → Type 0
IsIfLiteral bytes t = is_literal t.kind ≡ true → IsLiteralOf bytes t
