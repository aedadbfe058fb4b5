-- Conversions of constants, and where they are allowed: None where not. Go specification, "Conversions".
use Rattle.std.specs.Prelude.{ℕ, ℤ, pos, negsuc, Bool, ◌&&◌, ◌||◌, nat_lt, nat_le, List, Some, None, is_some, Ok, Err, encode_utf8, if◌then◌else◌}
use Rattle.ui_base.specs.declared.kind.Basic.{Basic}
use Rattle.ui_base.specs.declared.value.Value.{Value}
use Rattle.ui_base.specs.declared.value.Value.TheVariants.{Whole, Str, Truth}
use Rattle.ui_const.specs.Kinds.{bounds, is_within, is_text, is_truth}
use Rattle.ui_const.specs.Results.{limited_text}
use Rattle.ui_const.specs.Operators.{Answer}
use Rattle.ui_const.specs.declared.fault.ConstFault.TheVariants.{NotRepresentable}

-- whether a number is a Unicode code point that is no surrogate
abbrev pub is_character : ℕ → Bool
is_character n = nat_lt n 0xd800 || (nat_lt 0xdfff n && nat_le n 0x10ffff)

-- the character of a whole number: U+FFFD where it is none
abbrev pub character : ℤ → ℕ
character (pos n) = if is_character n then n else 0xfffd
character (negsuc n) = 0xfffd

-- "Conversions to and from a string type": a whole number gives the UTF-8 of its character
abbrev pub encoded : ℤ → List ℕ
encoded z = encode_utf8 (character z)

-- a whole number to a whole kind or to text
abbrev pub whole_conversion : ℤ → Basic → Answer
whole_conversion z kind =
    if is_text kind then Some (Ok (Str (encoded z)))
    else (if is_some (bounds kind) then Some (if is_within (bounds kind) z then Ok (Whole z) else Err NotRepresentable) else None)

-- a value to a kind
abbrev pub conversion : Value → Basic → Answer
conversion (Whole z) kind = whole_conversion z kind
conversion (Str text) kind = if is_text kind then Some (limited_text text) else None
conversion (Truth b) kind = if is_truth kind then Some (Ok (Truth b)) else None
