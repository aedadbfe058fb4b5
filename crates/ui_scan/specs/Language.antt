-- How tokens are spelled, as whole texts. Go specification, "Identifiers", "Keywords", "Operators and punctuation",
-- "Integer literals", "Rune literals" and "String literals".
use Rattle.std.specs.Prelude.{◌≡◌, ◌≢◌, ◌≤◌, ℕ, true, false, ◌||◌, ◌==◌, List, [], ◌∷◌, ◌++◌, length, Option, None, Some, if◌then◌else◌, slice_index, encode_utf8, encode_utf8_all, All}
use Rattle.std.specs.Int.{is_in_range}
use Rattle.std.specs.List.{concat, list_all, list_any}
use lib.Utf8.{scalar, scalars}
use Rattle.ui_base.specs.Names.{is_identifier}
use Rattle.ui_scan.specs.Digits.{number_of, greatest}
use Rattle.ui_scan.specs.Escape.{escape}
use Rattle.ui_scan.specs.Number.{is_counted, begins_fraction, is_numeral}
use Rattle.ui_scan.specs.Piece.{is_decimal}
use Rattle.ui_scan.specs.Table.{keywords, operators, spelled}
use Rattle.ui_scan.specs.declared.escape.Escape.{Escape}
use Rattle.ui_scan.specs.declared.kind.TokenKind.{TokenKind}
use Rattle.ui_scan.specs.declared.kind.TokenKind.TheVariants.{Ident, Int, Rune, Str}

-- letters and digits, the first of them a letter, that are no keyword
pub record IsIdentifier (text : List ℕ) : Type 0 where
  pub chars : List ℕ
  pub spelling : text ≡ encode_utf8_all chars
  pub values : scalars chars ≡ true
  pub letters : is_identifier chars ≡ true
  pub no_keyword : spelled keywords text ≡ None

-- the base of digits behind `0x`, `0o` or `0b`: 120 is 'x', 88 'X', 111 'o', 79 'O', 98 'b' and 66 'B'
abbrev pub marked_base : ℕ → Option ℕ
marked_base mark =
    if mark == 120 || mark == 88 then Some 16
    else (if mark == 111 || mark == 79 then Some 8
    else (if mark == 98 || mark == 66 then Some 2
    else None))

-- The text of a number of a base with these digits. They stand behind a 0 (48) and a mark; or alone, where the first is
-- a 0 in base 8, and another decimal digit in base 10.
pub data HasDigits (base : ℕ) (digits text : List ℕ) : Type 0 where
  marked : (mark : ℕ) → text ≡ 48 ∷ mark ∷ digits → marked_base mark ≡ Some base → HasDigits base digits text
  octal : (after : List ℕ) → text ≡ digits → digits ≡ 48 ∷ after → base ≡ 8 → HasDigits base digits text
  decimal : (first : ℕ) (after : List ℕ) → text ≡ digits → digits ≡ first ∷ after → is_in_range 49 57 first ≡ true → base ≡ 10 → HasDigits base digits text

-- a whole number: some digits of its base, each `_` before one of them, within the greatest
pub record IsInt (text : List ℕ) : Type 0 where
  pub base : ℕ
  pub digits : List ℕ
  pub number : HasDigits base digits text
  pub numeral : is_numeral base digits ≡ true
  pub small : number_of base digits ≤ greatest

-- an escape, in a literal with these quotes
pub record IsEscape (quote : ℕ) (text : List ℕ) : Type 0 where
  pub found : Escape
  pub backslash : slice_index text 0 ≡ 92
  pub reads : escape quote text ≡ Some found
  pub whole : found.len ≡ length text

-- a character may stand for itself: it's neither the quote, a line feed nor a backslash
abbrev pub IsPlain : ℕ → ℕ → Type 0
IsPlain quote c = (c ≢ quote) × (c ≢ 10) × (c ≢ 92)

-- one character or escape
pub data IsRuneBody (text : List ℕ) : Type 0 where
  char : (c : ℕ) → scalar c ≡ true → IsPlain 39 c → text ≡ encode_utf8 c → IsRuneBody text
  escaped : IsEscape 39 text → IsRuneBody text

-- one character or escape in single quotes (39)
pub record IsRune (text : List ℕ) : Type 0 where
  pub body : List ℕ
  pub spelling : text ≡ 39 ∷ (body ++ 39 ∷ [])
  pub one : IsRuneBody body

-- a byte of a character (a source is UTF-8 as a whole), or an escape
pub data IsItem (quote : ℕ) (text : List ℕ) : Type 0 where
  byte : (b : ℕ) → IsPlain quote b → text ≡ b ∷ [] → IsItem quote text
  escaped : IsEscape quote text → IsItem quote text

-- characters and escapes in double quotes (34)
pub record IsString (text : List ℕ) : Type 0 where
  pub items : List (List ℕ)
  pub spelling : text ≡ 34 ∷ (concat items ++ 34 ∷ [])
  pub each : All (IsItem 34) items

-- anything but a back quote (96) in back quotes
pub record IsRawString (text : List ℕ) : Type 0 where
  pub body : List ℕ
  pub spelling : text ≡ 96 ∷ (body ++ 96 ∷ [])
  pub no_quote : list_any (λ b. b == 96) body ≡ false

-- the whole text is a token of this kind
pub data IsToken (kind : TokenKind) (text : List ℕ) : Type 0 where
  identifier : kind ≡ Ident → IsIdentifier text → IsToken kind text
  keyword : spelled keywords text ≡ Some kind → IsToken kind text
  operator : spelled operators text ≡ Some kind → IsToken kind text
  int : kind ≡ Int → IsInt text → IsToken kind text
  rune : kind ≡ Rune → IsRune text → IsToken kind text
  string : kind ≡ Str → IsString text → IsToken kind text
  raw_string : kind ≡ Str → IsRawString text → IsToken kind text

-- what counts to a number, right or wrong: hexadecimal digits after `0x`, else decimal ones, and `_`
pub record IsRun (text : List ℕ) : Type 0 where
  pub base : ℕ
  pub digits : List ℕ
  pub number : HasDigits base digits text
  pub counted : list_all (is_counted base) digits ≡ true

-- A faulty number: one that a point, an exponent or an `i` (105) follows, one that is no whole number within the
-- greatest, or a point (46) before a digit.
pub data IsFaulty (text : List ℕ) : Type 0 where
  goes_on : (run : List ℕ) (b : ℕ) → text ≡ run ++ b ∷ [] → IsRun run → (begins_fraction b || b == 105) ≡ true → IsFaulty text
  no_int : IsRun text → (IsInt text → ⊥) → IsFaulty text
  point : (b : ℕ) → text ≡ 46 ∷ b ∷ [] → is_decimal b ≡ true → IsFaulty text
