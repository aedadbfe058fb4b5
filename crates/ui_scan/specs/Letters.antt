-- Identifiers in bytes. Go specification, "Identifiers"; letters and digits are those of ui_base.
use Rattle.std.specs.Prelude.{ℕ, suc, zero, ◌-◌, ◌==◌, ◌||◌, Bool, false, List, [], ◌∷◌, take, Option, None, Some, if◌then◌else◌, slice_get}
use Rattle.std.specs.Str.{chars}
use Rattle.std.specs.Str.Lossy.{utf8_valid_len}
use Rattle.std.specs.Char.{len_utf8}
use Rattle.std.specs.Int.{is_in_range}
use Rattle.ui_base.specs.Names.{continues}
use Rattle.ui_base.specs.Chars.{is_letter}

-- the character that the bytes begin with: no character has more than four bytes
unfoldable pub front_char : List ℕ → Option ℕ
front_char bytes = slice_get (chars (take (utf8_valid_len (take 4 bytes)) (take 4 bytes))) 0

-- there is a character, and it passes
abbrev pub passes : (ℕ → Bool) → Option ℕ → Bool
passes test None = false
passes test (Some c) = test c

-- how many bytes it has
abbrev pub width : Option ℕ → ℕ
width None = 0
width (Some c) = len_utf8 c

-- the bytes begin with a letter
abbrev pub begins_name : List ℕ → Bool
begins_name bytes = passes is_letter (front_char bytes)

-- how many bytes the letter or digit has that the bytes begin with, and 0 where there is none
abbrev pub continuing_len : List ℕ → ℕ
continuing_len bytes = if passes continues (front_char bytes) then width (front_char bytes) else 0

-- the letters below 128, and the digits with them: 'a' to 'z', 'A' to 'Z', '_', and '0' to '9'
abbrev pub is_low_letter : ℕ → Bool
is_low_letter b = is_in_range 97 122 b || (is_in_range 65 90 b || b == 95)

abbrev pub low_continues : ℕ → Bool
low_continues b = is_low_letter b || is_in_range 48 57 b

-- How many bytes of letters and digits the bytes begin with; the first ones, as many as said, are passed over and
-- counted.
abbrev pub name_len_from : ℕ → List ℕ → ℕ
name_len_from passed [] = 0
name_len_from (suc passed) (b ∷ bytes) = suc (name_len_from passed bytes)
name_len_from zero (b ∷ bytes) =
    if passes continues (front_char (b ∷ bytes)) then suc (name_len_from (width (front_char (b ∷ bytes)) - 1) bytes) else 0

unfoldable pub name_len : List ℕ → ℕ
name_len bytes = name_len_from 0 bytes
