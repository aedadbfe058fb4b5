-- The value of a whole constant, as fields of an element. This project's own, after `cmd/compile/internal/noder` of the Go tree.
use Rattle.std.specs.Prelude.{ℕ, ℤ, ◌+◌, ◌*◌, ◌^◌, List, [], ◌∷◌, slice_index, nat_eq, nat_lt, nat_le, not, ◌&&◌, ◌||◌, if◌then◌else◌, Bool, true, false, Option, Some, None}
use Rattle.ui_strpos.specs.declared.fault.Cause.{Cause}
use Rattle.ui_strpos.specs.declared.fault.Cause.TheVariants.{BadCode, BadText}
use Rattle.ui_strpos.specs.Reading.{Context, text_of}
use Rattle.ui_strpos.specs.Elements.{any, text_passes}
use Rattle.ui_strpos.specs.Format.{Format, uint_field, int_field, truth_field, use_field, seq, via, variant, tagged, choose, no_format}
use Rattle.ui_eobj.specs.declared.value.ValueEl.{ValueEl}
use Rattle.ui_eobj.specs.declared.value.ValueEl.TheVariants as value

-- ---- magnitudes

-- the number that bytes spell, most significant first, where a number stands before them
unfoldable pub magnitude_from : ℕ → List ℕ → ℕ
magnitude_from before [] = before
magnitude_from before (b ∷ bs) = magnitude_from (256 * before + b) bs

abbrev pub magnitude : List ℕ → ℕ
magnitude bytes = magnitude_from 0 bytes

-- constants go from -2^127 to 2^127 - 1, and 64 signed bits from -2^63 to 2^63 - 1: those of this sign that only pass the latter
abbrev pub is_past_64 : Bool → ℕ → Bool
is_past_64 true n = nat_lt (2 ^ 63) n && nat_le n (2 ^ 127)
is_past_64 false n = nat_le (2 ^ 63) n && nat_lt n (2 ^ 127)

-- the shortest bytes of the magnitude of a number that passes 64 signed bits
abbrev pub is_big : Bool → List ℕ → Bool
is_big negative bytes = not (nat_eq (slice_index bytes 0) 0) && is_past_64 negative (magnitude bytes)

abbrev pub is_magnitude : List ℕ → Bool
is_magnitude bytes = is_big false bytes || is_big true bytes

-- ---- the fields

-- a flag that is always 0
abbrev pub clear_flag : Context → Bool → Option Cause
clear_flag c b = if b then Some BadCode else None

abbrev pub code_of : ValueEl → ℕ
code_of (value.Int64 z) = 2
code_of (value.Big magnitude negative) = 3

abbrev pub as_int64 : ValueEl → Option ℤ
as_int64 (value.Int64 z) = Some z
as_int64 (value.Big magnitude negative) = None

abbrev pub as_big : ValueEl → Option (ℕ × Bool)
as_big (value.Int64 z) = None
as_big (value.Big magnitude negative) = Some (magnitude, negative)

abbrev pub is_code : ℕ → Bool
is_code n = nat_eq n 2 || nat_eq n 3

abbrev pub whole_code : Context → ℕ → Option Cause
whole_code c n = if is_code n then None else Some BadCode

-- the sign has to fit the magnitude
abbrev pub sign : ℕ → Context → Bool → Option Cause
sign k c negative = if is_big negative (text_of c k) then None else Some BadText

abbrev pub int64 : Format ValueEl
int64 = variant (λ z. value.Int64 z) as_int64 (int_field any)

abbrev pub big : Format ValueEl
big = variant (λ x. value.Big x.0 x.1) as_big (seq (use_field 0 (text_passes is_magnitude)) (λ k. truth_field (sign k)))

abbrev pub cases : ℕ → Format ValueEl
cases n = choose (nat_eq n 2) int64 (choose (nat_eq n 3) big no_format)

-- a code and its fields: 2 and I(value), or 3, Str(magnitude) and B(negative)
abbrev pub coded : Format ValueEl
coded = tagged (uint_field whole_code) code_of cases

-- B(0), since it isn't complex, and the code with its fields
abbrev pub whole_value : Format ValueEl
whole_value = via (λ x. x.1) (λ v. (false, v)) (seq (truth_field clear_flag) (λ _. coded))
