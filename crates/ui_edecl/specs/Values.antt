-- The value of a constant, as fields of an element. This project's own, after `cmd/compile/internal/noder` of the Go tree.
use Rattle.std.specs.Prelude.{ℕ, ℤ, nat_eq, Bool, false, Option, Some, None}
use Rattle.ui_strpos.specs.Elements.{any, code_below, text_passes}
use Rattle.ui_strpos.specs.Format.{Format, uint_field, int_field, truth_field, use_field, seq, via, variant, tagged, choose, no_format}
use Rattle.ui_eobj.specs.Values.{clear_flag, is_magnitude, sign}
use Rattle.ui_edecl.specs.declared.value.ValueEl.{ValueEl}
use Rattle.ui_edecl.specs.declared.value.ValueEl.TheVariants as value

abbrev pub code_of : ValueEl → ℕ
code_of (value.Bool b) = 0
code_of (value.Text k) = 1
code_of (value.Int64 z) = 2
code_of (value.Big magnitude negative) = 3

abbrev pub as_bool : ValueEl → Option Bool
as_bool (value.Bool b) = Some b
as_bool v = None

abbrev pub as_text : ValueEl → Option ℕ
as_text (value.Text k) = Some k
as_text v = None

abbrev pub as_int64 : ValueEl → Option ℤ
as_int64 (value.Int64 z) = Some z
as_int64 v = None

abbrev pub as_big : ValueEl → Option (ℕ × Bool)
as_big (value.Big magnitude negative) = Some (magnitude, negative)
as_big v = None

abbrev pub bool : Format ValueEl
bool = variant (λ b. value.Bool b) as_bool (truth_field any)

abbrev pub text : Format ValueEl
text = variant (λ k. value.Text k) as_text (use_field 0 any)

abbrev pub int64 : Format ValueEl
int64 = variant (λ z. value.Int64 z) as_int64 (int_field any)

-- Str of the magnitude's bytes, the most significant first, and B(negative): a value that 64 signed bits don't hold
abbrev pub big : Format ValueEl
big = variant (λ x. value.Big x.0 x.1) as_big (seq (use_field 0 (text_passes is_magnitude)) (λ k. truth_field (sign k)))

abbrev pub cases : ℕ → Format ValueEl
cases n = choose (nat_eq n 0) bool (choose (nat_eq n 1) text (choose (nat_eq n 2) int64 (choose (nat_eq n 3) big no_format)))

abbrev pub coded : Format ValueEl
coded = tagged (uint_field (code_below 4)) code_of cases

-- B(0), since it isn't complex, and the code with its fields
abbrev pub constant_value : Format ValueEl
constant_value = via (λ x. x.1) (λ v. (false, v)) (seq (truth_field clear_flag) (λ _. coded))
