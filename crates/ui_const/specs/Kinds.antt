-- What a basic kind can hold. Go specification, "Numeric types", "String types", "Boolean types", "Representability". An
-- untyped whole kind holds every constant: this project's own range of -2^127 to 2^127 - 1.
use Rattle.std.specs.Prelude.{ℕ, ◌-◌, ◌^◌, ℤ, pos, negsuc, int_le, Bool, true, false, ◌&&◌, Option, Some, None, Result, Ok, Err, if◌then◌else◌}
use Rattle.ui_base.specs.declared.kind.Basic.{Basic}
use Rattle.ui_base.specs.declared.kind.Basic.TheVariants.{Bool as bool, Int, Int8, Int16, Int32, Int64, Uint, Uint8, Uint16, Uint32, Uint64, String as string, UntypedBool, UntypedInt, UntypedRune, UntypedString, UntypedNil}
use Rattle.ui_base.specs.declared.value.Value.{Value}
use Rattle.ui_base.specs.declared.value.Value.TheVariants.{Whole, Str, Truth}
use Rattle.ui_const.specs.declared.fault.ConstFault.{ConstFault}
use Rattle.ui_const.specs.declared.fault.ConstFault.TheVariants.{NotRepresentable}

-- the whole numbers of n bits in two's complement, the least and the greatest: -2^(n - 1) to 2^(n - 1) - 1
abbrev pub signed_bounds : ℕ → ℤ × ℤ
signed_bounds n = (negsuc (2 ^ (n - 1) - 1), pos (2 ^ (n - 1) - 1))

-- the whole numbers of n bits without a sign: 0 to 2^n - 1
abbrev pub unsigned_bounds : ℕ → ℤ × ℤ
unsigned_bounds n = (pos 0, pos (2 ^ n - 1))

-- The least and the greatest whole number of a whole kind; no other kind has them. `int` and `uint` have 64 bits.
abbrev pub bounds : Basic → Option (ℤ × ℤ)
bounds bool = None
bounds Int = Some (signed_bounds 64)
bounds Int8 = Some (signed_bounds 8)
bounds Int16 = Some (signed_bounds 16)
bounds Int32 = Some (signed_bounds 32)
bounds Int64 = Some (signed_bounds 64)
bounds Uint = Some (unsigned_bounds 64)
bounds Uint8 = Some (unsigned_bounds 8)
bounds Uint16 = Some (unsigned_bounds 16)
bounds Uint32 = Some (unsigned_bounds 32)
bounds Uint64 = Some (unsigned_bounds 64)
bounds string = None
bounds UntypedBool = None
bounds UntypedInt = Some (signed_bounds 128)
bounds UntypedRune = Some (signed_bounds 128)
bounds UntypedString = None
bounds UntypedNil = None

abbrev pub is_text : Basic → Bool
is_text string = true
is_text UntypedString = true
is_text bool = false
is_text Int = false
is_text Int8 = false
is_text Int16 = false
is_text Int32 = false
is_text Int64 = false
is_text Uint = false
is_text Uint8 = false
is_text Uint16 = false
is_text Uint32 = false
is_text Uint64 = false
is_text UntypedBool = false
is_text UntypedInt = false
is_text UntypedRune = false
is_text UntypedNil = false

abbrev pub is_truth : Basic → Bool
is_truth bool = true
is_truth UntypedBool = true
is_truth Int = false
is_truth Int8 = false
is_truth Int16 = false
is_truth Int32 = false
is_truth Int64 = false
is_truth Uint = false
is_truth Uint8 = false
is_truth Uint16 = false
is_truth Uint32 = false
is_truth Uint64 = false
is_truth string = false
is_truth UntypedInt = false
is_truth UntypedRune = false
is_truth UntypedString = false
is_truth UntypedNil = false

-- whether a whole number lies within bounds
abbrev pub is_within : Option (ℤ × ℤ) → ℤ → Bool
is_within None z = false
is_within (Some range) z = int_le range.0 z && int_le z range.1

-- whether a kind can hold a value
abbrev pub holds : Basic → Value → Bool
holds kind (Whole z) = is_within (bounds kind) z
holds kind (Str text) = is_text kind
holds kind (Truth b) = is_truth kind

-- "Representability": a value that a kind can't hold isn't representable
abbrev pub represented : Value → Basic → Result Unit ConstFault
represented v kind = if holds kind v then Ok tt else Err NotRepresentable
