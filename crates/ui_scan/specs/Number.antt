-- Numbers. Go specification, "Integer literals", "Floating-point literals" and "Imaginary literals".
use Rattle.std.specs.Prelude.{ℕ, ◌+◌, ◌-◌, Bool, not, ◌&&◌, ◌||◌, ◌==◌, List, take, drop, length, Option, None, Some, if◌then◌else◌, slice_index}
use Rattle.std.specs.List.{prefix_len}
use Rattle.ui_scan.specs.Digits.{is_digit_of, are_digits, whole}
use Rattle.ui_scan.specs.declared.number.Radix.{Radix}
use Rattle.ui_scan.specs.declared.piece.Piece.{Piece}
use Rattle.ui_scan.specs.declared.piece.Piece.TheVariants as piece
use Rattle.ui_scan.specs.declared.kind.TokenKind.TheVariants.{Int}
use Rattle.ui_scan.specs.declared.kind.ScanKind.TheVariants as fault

-- the base, and the length of what tells it: `0x`, `0o` or `0b` in either case, or a leading 0, which is itself a digit
unfoldable pub radix : List ℕ → Radix
radix bytes =
    let second = slice_index bytes 1 in
    if slice_index bytes 0 == 48 then
    (if second == 120 || second == 88 then record { base = 16; len = 2 }
    else (if second == 111 || second == 79 then record { base = 8; len = 2 }
    else (if second == 98 || second == 66 then record { base = 2; len = 2 }
    else record { base = 8; len = 0 })))
    else record { base = 10; len = 0 }

-- what counts to the number, right or wrong: hexadecimal digits after `0x`, else decimal ones, and `_`
abbrev pub is_counted : ℕ → ℕ → Bool
is_counted base b = b == 95 || is_digit_of (if base == 16 then 16 else 10) b

-- how many bytes count to the number
abbrev pub counted_len : ℕ → List ℕ → ℕ
counted_len base bytes = prefix_len (is_counted base) bytes

-- where the number ends
abbrev pub number_end : Radix → List ℕ → ℕ
number_end r bytes = r.len + counted_len r.base (drop r.len bytes)

-- the digits of a number of this length, behind the prefix
abbrev pub digits_in : Radix → List ℕ → ℕ → List ℕ
digits_in r bytes end = take (end - r.len) (drop r.len bytes)

-- `.`, `e`, `E`, `p` or `P`
abbrev pub begins_fraction : ℕ → Bool
begins_fraction b = b == 46 || (b == 101 || (b == 69 || (b == 112 || b == 80)))

-- some digits, each of the base
unfoldable pub is_numeral : ℕ → List ℕ → Bool
is_numeral base digits = not (length digits == 0) && are_digits base digits

-- a number of this length, if it is within the greatest
abbrev pub within : ℕ → Option ℕ → Piece
within end None = piece.Fault fault.ConstTooBig 0
within end (Some n) = piece.Token Int end

-- these digits, in a number of this length
unfoldable pub whole_number : ℕ → List ℕ → ℕ → Piece
whole_number base digits end = if is_numeral base digits then within end (whole base digits) else piece.Fault fault.BadNumber 0

-- the number that ends there
abbrev pub number_to : Radix → List ℕ → ℕ → Piece
number_to r bytes end =
    if begins_fraction (slice_index bytes end) then piece.Fault fault.FloatLiteral 0
    else (if slice_index bytes end == 105 then piece.Fault fault.ImaginaryLiteral 0
    else whole_number r.base (digits_in r bytes end) end)

-- the number that the bytes begin with: 105 is 'i'
unfoldable pub number : List ℕ → Piece
number bytes = number_to (radix bytes) bytes (number_end (radix bytes) bytes)
