-- Reading a number or truth value at the front of bytes: the value and how many bytes it took, or the
-- fault. This project's own; the law `one_spelling` says it in the words of the grammar.
use Rattle.std.specs.Prelude.{ℕ, ◌+◌, ◌-◌, ◌*◌, ◌/◌, ◌%◌, ◌^◌, List, [], ◌∷◌, nat_lt, ◌==◌, if◌then◌else◌, ℤ, pos, negsuc, Bool, true, false, Result, Ok, Err}
use Rattle.ui_frame.specs.declared.number.NumFault.{NumFault}
use Rattle.ui_frame.specs.declared.number.NumFault.TheVariants.{Cut, LongNumber, BadBool}

infixl 10 ◌>>=◌
abbrev pub ◌>>=◌ : {A B F : Type 0} → Result A F → (A → Result B F) → Result B F
(Ok x) >>= f = f x
(Err e) >>= f = Err e

-- a number of at most limit
abbrev pub number_at : ℕ → List ℕ → Result (ℕ × ℕ) NumFault
number_at limit [] = Err Cut
number_at limit (b ∷ bs) =
    if nat_lt b 128
    then (if nat_lt limit b then Err LongNumber else Ok (b, 1))
    else if nat_lt limit 128
    then Err LongNumber
    else (number_at ((limit - (b - 128)) / 128) bs >>= λ r. if r.0 == 0 then Err LongNumber else Ok ((b - 128) + 128 * r.0, r.1 + 1))

unfoldable pub uint_at : List ℕ → Result (ℕ × ℕ) NumFault
uint_at bytes = number_at (2 ^ 64 - 1) bytes

abbrev pub unzigzag : ℕ → ℤ
unzigzag n = if n % 2 == 0 then pos (n / 2) else negsuc (n / 2)

unfoldable pub int_at : List ℕ → Result (ℤ × ℕ) NumFault
int_at bytes = uint_at bytes >>= λ r. Ok (unzigzag r.0, r.1)

unfoldable pub truth_at : List ℕ → Result (Bool × ℕ) NumFault
truth_at [] = Err Cut
truth_at (b ∷ bs) = if b == 0 then Ok (false, 1) else if b == 1 then Ok (true, 1) else Err BadBool

-- the length as the place after it
abbrev pub placed : {A : Type 0} → ℕ → Result (A × ℕ) NumFault → Result (A × ℕ) NumFault
placed at (Ok r) = Ok (r.0, at + r.1)
placed at (Err e) = Err e
