-- Digits and their numbers. Go specification, "Letters and digits" and "Integer literals".
use Rattle.std.specs.Prelude.{ℕ, ◌+◌, ◌-◌, ◌*◌, ◌^◌, Bool, false, true, not, ◌&&◌, ◌||◌, ◌==◌, List, [], ◌∷◌, Option, None, Some, if◌then◌else◌, nat_lt, fold}
use Rattle.std.specs.Int.{is_in_range}

-- what a digit stands for, and 16 for any other byte: 48 is '0', 97 is 'a' and 65 is 'A'
unfoldable pub digit : ℕ → ℕ
digit b =
    if is_in_range 48 57 b then b - 48
    else (if is_in_range 97 102 b then b - 87
    else (if is_in_range 65 70 b then b - 55
    else 16))

-- a digit of the base
abbrev pub is_digit_of : ℕ → ℕ → Bool
is_digit_of base b = nat_lt (digit b) base

-- one more digit; `_` (95) stands for nothing
abbrev pub with_digit : ℕ → ℕ → ℕ → ℕ
with_digit base number b = if b == 95 then number else number * base + digit b

-- the number that the digits stand for, the first of them the most
unfoldable pub number_of : ℕ → List ℕ → ℕ
number_of base digits = fold (with_digit base) 0 digits

-- 2^127 - 1, the greatest whole constant
abbrev pub greatest : ℕ
greatest = 2 ^ 127 - 1

-- the number, unless it is past the greatest
unfoldable pub whole : ℕ → List ℕ → Option ℕ
whole base digits = if nat_lt greatest (number_of base digits) then None else Some (number_of base digits)

-- a digit follows, or what is no `_`
abbrev pub goes_on : List ℕ → Bool
goes_on [] = false
goes_on (b ∷ bytes) = not (b == 95)

-- each byte is a digit of the base, or a `_` that a digit follows
unfoldable pub are_digits : ℕ → List ℕ → Bool
are_digits base [] = true
are_digits base (b ∷ bytes) = (is_digit_of base b || (b == 95 && goes_on bytes)) && are_digits base bytes
