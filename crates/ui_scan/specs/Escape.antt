-- Escapes. Go specification, "Rune literals" and "String literals".
use Rattle.std.specs.Prelude.{ℕ, ◌+◌, ◌==◌, List, [], ◌∷◌, take, drop, length, Option, None, Some, option_and_then, option_map, if◌then◌else◌, slice_index, nat_lt, encode_utf8}
use Rattle.std.specs.Int.{is_in_range}
use Rattle.std.specs.List.{list_all}
use lib.Utf8.{scalar}
use Rattle.ui_scan.specs.Digits.{is_digit_of, whole}
use Rattle.ui_scan.specs.declared.escape.Escape.{Escape}
use Rattle.ui_scan.specs.declared.escape.Escaped.{Escaped}
use Rattle.ui_scan.specs.declared.escape.Escaped.TheVariants.{Byte, Char}

-- the number of exactly so many digits at the front
unfoldable pub digits_at : ℕ → ℕ → List ℕ → Option ℕ
digits_at base n bytes =
    if nat_lt (length bytes) n then None
    else (if list_all (is_digit_of base) (take n bytes) then whole base (take n bytes)
    else None)

-- a byte, by its number in n digits behind `before` other bytes
unfoldable pub byte_escape : ℕ → ℕ → ℕ → List ℕ → Option Escape
byte_escape base n before bytes = option_and_then
    (λ v. if nat_lt 255 v then None else Some (record { stands_for = Byte v; len = before + n }))
    (digits_at base n (drop before bytes))

-- a character, by its number in n hexadecimal digits behind `before` other bytes
unfoldable pub char_escape : ℕ → List ℕ → Option Escape
char_escape n bytes = option_and_then
    (λ v. if scalar v then Some (record { stands_for = Char v; len = 2 + n }) else None)
    (digits_at 16 n (drop 2 bytes))

-- what `\` and one character stand for: a bell (97 is 'a'), a backspace, a form feed, a line feed, a carriage return,
-- a tab, a vertical tab, a backslash, and the quote of the literal
unfoldable pub simple_escape : ℕ → ℕ → Option ℕ
simple_escape quote b =
    if b == 97 then Some 7
    else (if b == 98 then Some 8
    else (if b == 102 then Some 12
    else (if b == 110 then Some 10
    else (if b == 114 then Some 13
    else (if b == 116 then Some 9
    else (if b == 118 then Some 11
    else (if b == 92 then Some 92
    else (if b == quote then Some quote
    else None))))))))

-- the escape that the bytes begin with, where they begin with a backslash: three octal digits, `x` and two hexadecimal
-- digits, `u` and four, `U` and eight, or one character
unfoldable pub escape : ℕ → List ℕ → Option Escape
escape quote bytes =
    let b = slice_index bytes 1 in
    if nat_lt (length bytes) 2 then None
    else (if is_in_range 48 55 b then byte_escape 8 3 1 bytes
    else (if b == 120 then byte_escape 16 2 2 bytes
    else (if b == 117 then char_escape 4 bytes
    else (if b == 85 then char_escape 8 bytes
    else option_map (λ c. record { stands_for = Char c; len = 2 }) (simple_escape quote b)))))

-- its number, in a rune
abbrev pub code_of : Escaped → ℕ
code_of (Byte b) = b
code_of (Char c) = c

-- its bytes, in a string
abbrev pub bytes_of : Escaped → List ℕ
bytes_of (Byte b) = b ∷ []
bytes_of (Char c) = encode_utf8 c
