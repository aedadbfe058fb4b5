-- Identifiers. Go specification, "Identifiers", "Keywords" and "Exported identifiers".
use Rattle.std.specs.Prelude.{ℕ, Bool, false, not, ◌&&◌, ◌||◌, List, [], ◌∷◌, take, codes, bytes_eq}
use Rattle.std.specs.List.{list_any, list_all}
use Rattle.std.specs.Str.{chars, is_utf8}
use Rattle.std.specs.Str.Lossy.{utf8_valid_len}
use Rattle.ui_base.specs.Chars.{is_letter, is_digit, is_upper}

-- the words that are no names, ascending
abbrev pub keywords : List (List ℕ)
keywords =
    codes "break" ∷ codes "case" ∷ codes "chan" ∷ codes "const" ∷ codes "continue" ∷ codes "default" ∷ codes "defer" ∷ codes "else" ∷ codes "fallthrough"
    ∷ codes "for" ∷ codes "func" ∷ codes "go" ∷ codes "goto" ∷ codes "if" ∷ codes "import" ∷ codes "interface" ∷ codes "map" ∷ codes "package" ∷ codes "range"
    ∷ codes "return" ∷ codes "select" ∷ codes "struct" ∷ codes "switch" ∷ codes "type" ∷ codes "var" ∷ []

unfoldable pub is_keyword : List ℕ → Bool
is_keyword bytes = list_any (λ word. bytes_eq word bytes) keywords

-- a letter or a digit
abbrev pub continues : ℕ → Bool
continues c = is_letter c || is_digit c

-- the first character is one that passes
abbrev pub begins_with : (ℕ → Bool) → List ℕ → Bool
begins_with test [] = false
begins_with test (c ∷ cs) = test c

-- letters and digits, the first of them a letter
abbrev pub is_identifier : List ℕ → Bool
is_identifier cs = begins_with is_letter cs && list_all continues cs

-- the text of an identifier that is no keyword
unfoldable pub is_name : List ℕ → Bool
is_name bytes = is_utf8 bytes && (is_identifier (chars bytes) && not (is_keyword bytes))

-- The bytes begin with a capital. Bytes that are no text count up to the first that is none.
unfoldable pub is_exported : List ℕ → Bool
is_exported bytes = begins_with is_upper (chars (take (utf8_valid_len bytes) bytes))
