-- Which fault of scanning a file has, and where it stands, as relations on its bytes. Go specification, "Lexical elements".
use Rattle.std.specs.Prelude.{◌≡◌, ◌≢◌, ◌<◌, ◌⊎◌, ◌↔◌, ℕ, ◌+◌, true, false, ◌==◌, List, [], ◌∷◌, ◌++◌, take, drop, length, Option, None, Some, Err, slice_index, All}
use Rattle.std.specs.List.{concat, list_any}
use Rattle.ui_scan.specs.Digits.{number_of, greatest}
use Rattle.ui_scan.specs.Language.{IsEscape, IsItem, IsRuneBody, IsToken}
use Rattle.ui_scan.specs.Longest.{IsLongestToken}
use Rattle.ui_scan.specs.Number.{radix, number_end, digits_in, begins_fraction, is_numeral}
use Rattle.ui_scan.specs.Piece.{is_decimal, comment_len}
use Rattle.ui_scan.specs.Scan.{fault_at, tokens_of}
use Rattle.ui_scan.specs.Source.{mark_len, text_len, text_fault}
use Rattle.ui_scan.specs.Tokens.{IsBlank, begins_blank}
use Rattle.ui_scan.specs.declared.kind.ScanKind.{ScanKind}
use Rattle.ui_scan.specs.declared.kind.ScanKind.TheVariants.{BadByte, OpenComment, BadNumber, FloatLiteral, ImaginaryLiteral, ConstTooBig, BadEscape, BadRune, NewlineInString, OpenString}
use Rattle.ui_scan.specs.declared.kind.TokenKind.{TokenKind}

-- ---- numbers

-- how many bytes count to the number at the front, right or wrong
abbrev pub number_len : List ℕ → ℕ
number_len bytes = number_end (radix bytes) bytes

-- its digits
abbrev pub number_digits : List ℕ → List ℕ
number_digits bytes = digits_in (radix bytes) bytes (number_len bytes)

-- the byte behind it
abbrev pub behind_number : List ℕ → ℕ
behind_number bytes = slice_index bytes (number_len bytes)

-- some digits that neither a fraction, an exponent nor an `i` (105) follows
pub record IsAlone (bytes : List ℕ) : Type 0 where
  pub digit : is_decimal (slice_index bytes 0) ≡ true
  pub no_fraction : begins_fraction (behind_number bytes) ≡ false
  pub no_mark : (behind_number bytes == 105) ≡ false

-- A faulty number: a point (46) before a digit, or digits that a fraction or an exponent follows; digits that an `i`
-- follows; wrong digits; or a number past the greatest.
pub data IsFaultyNumber (bytes : List ℕ) (kind : ScanKind) : Type 0 where
  point : kind ≡ FloatLiteral → slice_index bytes 0 ≡ 46 → is_decimal (slice_index bytes 1) ≡ true → IsFaultyNumber bytes kind
  float : kind ≡ FloatLiteral → is_decimal (slice_index bytes 0) ≡ true → begins_fraction (behind_number bytes) ≡ true → IsFaultyNumber bytes kind
  imaginary : kind ≡ ImaginaryLiteral → is_decimal (slice_index bytes 0) ≡ true → begins_fraction (behind_number bytes) ≡ false → behind_number bytes ≡ 105 → IsFaultyNumber bytes kind
  no_numeral : kind ≡ BadNumber → IsAlone bytes → is_numeral (radix bytes).base (number_digits bytes) ≡ false → IsFaultyNumber bytes kind
  too_big : kind ≡ ConstTooBig → IsAlone bytes → is_numeral (radix bytes).base (number_digits bytes) ≡ true → greatest < number_of (radix bytes).base (number_digits bytes) → IsFaultyNumber bytes kind

-- ---- literals in quotes

-- a quote, and behind it characters and escapes, up to what is left
pub record Opens (quote : ℕ) (bytes left : List ℕ) : Type 0 where
  pub items : List (List ℕ)
  pub each : All (IsItem quote) items
  pub spelling : bytes ≡ quote ∷ (concat items ++ left)

-- a backslash (92) that begins no escape
pub record IsBadEscape (quote : ℕ) (bytes : List ℕ) : Type 0 where
  pub after : List ℕ
  pub backslash : bytes ≡ 92 ∷ after
  pub no_escape : (text rest : List ℕ) → IsEscape quote text → bytes ≡ text ++ rest → ⊥

-- A literal in double quotes (34) that a line's end (10) cuts; one in single quotes (39) likewise; one in single quotes
-- that holds other than one character or escape; and in either a bad escape, at its backslash.
pub data IsFaultyLiteral (bytes : List ℕ) (kind : ScanKind) (at : ℕ) : Type 0 where
  cut_string : (left : List ℕ) → kind ≡ NewlineInString → at ≡ 0 → Opens 34 bytes (10 ∷ left) → IsFaultyLiteral bytes kind at
  cut_rune : (left : List ℕ) → kind ≡ BadRune → at ≡ 0 → Opens 39 bytes (10 ∷ left) → IsFaultyLiteral bytes kind at
  no_rune : (left : List ℕ) → kind ≡ BadRune → at ≡ 0 → (o : Opens 39 bytes (39 ∷ left)) → (IsRuneBody (concat o.items) → ⊥) → IsFaultyLiteral bytes kind at
  in_string : (left : List ℕ) → kind ≡ BadEscape → (o : Opens 34 bytes left) → at ≡ 1 + length (concat o.items) → IsBadEscape 34 left → IsFaultyLiteral bytes kind at
  in_rune : (left : List ℕ) → kind ≡ BadEscape → (o : Opens 39 bytes left) → at ≡ 1 + length (concat o.items) → IsBadEscape 39 left → IsFaultyLiteral bytes kind at

-- ---- at the front of some bytes

-- a byte that begins neither white space, a comment, a literal nor any other token
pub record IsStray (bytes : List ℕ) : Type 0 where
  pub some_bytes : 0 < length bytes
  pub no_blank : begins_blank bytes ≡ false
  pub no_string : slice_index bytes 0 ≢ 34
  pub no_rune : slice_index bytes 0 ≢ 39
  pub no_raw_string : slice_index bytes 0 ≢ 96
  pub no_number : is_decimal (slice_index bytes 0) ≡ false
  pub no_point : slice_index bytes 0 ≡ 46 → is_decimal (slice_index bytes 1) ≡ true → ⊥
  pub no_token : (kind : TokenKind) (text rest : List ℕ) → IsToken kind text → bytes ≡ text ++ rest → ⊥

-- a fault, and where it stands from the first of the bytes
pub data IsFaultAt (bytes : List ℕ) (kind : ScanKind) (at : ℕ) : Type 0 where
  number : at ≡ 0 → IsFaultyNumber bytes kind → IsFaultAt bytes kind at
  literal : IsFaultyLiteral bytes kind at → IsFaultAt bytes kind at
  stray : kind ≡ BadByte → at ≡ 0 → IsStray bytes → IsFaultAt bytes kind at

-- a comment or a literal in which the bytes end: `/*` (47 and 42) without `*/` behind it, or a quote without a second
pub data IsOpen (bytes : List ℕ) (kind : ScanKind) : Type 0 where
  comment : (body : List ℕ) → kind ≡ OpenComment → bytes ≡ 47 ∷ 42 ∷ body → comment_len body ≡ None → IsOpen bytes kind
  string : kind ≡ OpenString → Opens 34 bytes [] → IsOpen bytes kind
  raw_string : (body : List ℕ) → kind ≡ OpenString → bytes ≡ 96 ∷ body → list_any (λ b. b == 96) body ≡ false → IsOpen bytes kind
  rune : kind ≡ BadRune → Opens 39 bytes [] → IsOpen bytes kind

-- ---- in a file

-- the longest token that the bytes begin with, where no white space and no comment begins
pub record IsWord (text after : List ℕ) : Type 0 where
  pub some_bytes : 0 < length text
  pub no_blank : begins_blank (text ++ after) ≡ false
  pub kind : TokenKind
  pub longest : IsLongestToken (text ++ after) kind (length text)

-- each of these is one white character, a comment, or the longest token there
abbrev pub ArePassed : List (List ℕ) → List ℕ → Type 0
ArePassed [] after = Unit {0}
ArePassed (text ∷ texts) after = (IsBlank text (concat texts ++ after) ⊎ IsWord text (concat texts ++ after)) × ArePassed texts after

-- The fault of what is left of a text, from its first byte. Behind the text the file ends, or a byte stands that no source
-- may have; then that is the fault where all of the text is passed, or where a comment or a literal is open.
pub data IsFaultOf (end : Option ScanKind) (left : List ℕ) (kind : ScanKind) (at : ℕ) : Type 0 where
  here : IsFaultAt left kind at → IsFaultOf end left kind at
  open_ : end ≡ None → at ≡ 0 → IsOpen left kind → IsFaultOf end left kind at
  open_before : (other : ScanKind) → end ≡ Some kind → at ≡ length left → IsOpen left other → IsFaultOf end left kind at
  past : left ≡ [] → end ≡ Some kind → at ≡ 0 → IsFaultOf end left kind at

-- The file's bytes up to some place are white space, comments and tokens, each the longest there, and what is left of the
-- text has this fault.
pub record IsScanFault (bytes : List ℕ) (kind : ScanKind) (at : ℕ) : Type 0 where
  pub passed : List (List ℕ)
  pub left : List ℕ
  pub spelling : drop (mark_len bytes) (take (text_len bytes) bytes) ≡ concat passed ++ left
  pub each : ArePassed passed left
  pub from : ℕ
  pub fault : IsFaultOf (text_fault bytes) left kind from
  pub stands : at ≡ mark_len bytes + length (concat passed) + from

abbrev pub TellsScanFaults : Type 0
TellsScanFaults = (bytes : List ℕ) (kind : ScanKind) (at : ℕ) → (tokens_of bytes ≡ Err (fault_at kind at)) ↔ IsScanFault bytes kind at
