-- What runes and strings stand for, by their characters and escapes one by one. Go specification, "Rune literals" and
-- "String literals".
use Rattle.std.specs.Prelude.{◌≡◌, ◌↔◌, ℕ, true, false, not, ◌==◌, List, [], ◌∷◌, ◌++◌, filter, pos, encode_utf8}
use Rattle.std.specs.List.{concat, list_any}
use lib.Utf8.{scalar}
use Rattle.ui_scan.specs.Escape.{code_of, bytes_of}
use Rattle.ui_scan.specs.Language.{IsPlain, IsEscape, IsRune, IsString, IsRawString}
use Rattle.ui_scan.specs.Value.{value_in}
use Rattle.ui_scan.specs.declared.kind.TokenKind.TheVariants.{Rune, Str}
use Rattle.ui_base.specs.declared.value.Value.TheVariants as value

-- What an item of a string stands for: a character's byte for itself, an escape for its byte or for its character in
-- UTF-8.
pub data StandsFor (text bytes : List ℕ) : Type 0 where
  byte : (b : ℕ) → IsPlain 34 b → text ≡ b ∷ [] → bytes ≡ b ∷ [] → StandsFor text bytes
  escaped : (is : IsEscape 34 text) → bytes ≡ bytes_of is.found.stands_for → StandsFor text bytes

-- each of these items, with what it stands for
abbrev pub StandEach : List (List ℕ) → List (List ℕ) → Type 0
StandEach [] [] = Unit {0}
StandEach [] (bytes ∷ parts) = ⊥
StandEach (text ∷ items) [] = ⊥
StandEach (text ∷ items) (bytes ∷ parts) = StandsFor text bytes × StandEach items parts

-- items in double quotes (34), and what they stand for, one after another
pub record IsStringOf (text bytes : List ℕ) : Type 0 where
  pub items : List (List ℕ)
  pub parts : List (List ℕ)
  pub spelling : text ≡ 34 ∷ (concat items ++ 34 ∷ [])
  pub each : StandEach items parts
  pub value : bytes ≡ concat parts

-- what stands in back quotes (96), and the same without carriage returns (13)
pub record IsRawStringOf (text bytes : List ℕ) : Type 0 where
  pub body : List ℕ
  pub spelling : text ≡ 96 ∷ (body ++ 96 ∷ [])
  pub no_quote : list_any (λ b. b == 96) body ≡ false
  pub value : bytes ≡ filter (λ b. not (b == 13)) body

-- one character in single quotes (39), or one escape, and its number
pub data IsRuneOf (text : List ℕ) (code : ℕ) : Type 0 where
  char : (c : ℕ) → scalar c ≡ true → IsPlain 39 c → text ≡ 39 ∷ (encode_utf8 c ++ 39 ∷ []) → code ≡ c → IsRuneOf text code
  escaped : (body : List ℕ) → text ≡ 39 ∷ (body ++ 39 ∷ []) → (is : IsEscape 39 body) → code ≡ code_of is.found.stands_for → IsRuneOf text code

-- These are just the strings, raw strings and runes, and their values.
abbrev pub StringsByItems : Type 0
StringsByItems = (text bytes : List ℕ) → IsStringOf text bytes ↔ (IsString text × (value_in Str text ≡ value.Str bytes))

abbrev pub RawStringsByBodies : Type 0
RawStringsByBodies = (text bytes : List ℕ) → IsRawStringOf text bytes ↔ (IsRawString text × (value_in Str text ≡ value.Str bytes))

abbrev pub RunesByItems : Type 0
RunesByItems = (text : List ℕ) (code : ℕ) → IsRuneOf text code ↔ (IsRune text × (value_in Rune text ≡ value.Whole (pos code)))
