-- The results of constant operations and their limits. Go specification, "Constant expressions": constants are exact. The
-- limits are this project's own: whole numbers from -2^127 to 2^127 - 1, texts of at most 1,048,576 bytes.
use Rattle.std.specs.Prelude.{◌≡◌, ℕ, ◌^◌, ℤ, pos, negsuc, Bool, nat_lt, nat_le, List, length, Result, Ok, Err, ⊤, if◌then◌else◌}
use Rattle.ui_base.specs.declared.value.Value.{Value}
use Rattle.ui_base.specs.declared.value.Value.TheVariants.{Whole, Str, Truth}
use Rattle.ui_const.specs.declared.fault.ConstFault.{ConstFault}
use Rattle.ui_const.specs.declared.fault.ConstFault.TheVariants.{DivByZero, ConstTooBig, NotRepresentable, BadShift, NoMemory}

-- whether a whole number lies from -2^127 to 2^127 - 1
abbrev pub is_constant : ℤ → Bool
is_constant (pos n) = nat_lt n (2 ^ 127)
is_constant (negsuc n) = nat_lt n (2 ^ 127)

abbrev pub text_limit : ℕ
text_limit = 1048576

-- the whole number, within the limits
abbrev pub limited : ℤ → Result ℤ ConstFault
limited z = if is_constant z then Ok z else Err ConstTooBig

-- the same as a value
abbrev pub limited_whole : ℤ → Result Value ConstFault
limited_whole z = if is_constant z then Ok (Whole z) else Err ConstTooBig

-- the text, within the limit
abbrev pub limited_text : List ℕ → Result Value ConstFault
limited_text text = if nat_le (length text) text_limit then Ok (Str text) else Err ConstTooBig

-- only a text takes memory
abbrev pub TakesMemory : Result Value ConstFault → Type 0
TakesMemory (Ok (Whole z)) = ⊥
TakesMemory (Ok (Str text)) = ⊤
TakesMemory (Ok (Truth b)) = ⊥
TakesMemory (Err e) = ⊥

-- What a call gave is what is wanted, but where memory ran out for a text.
abbrev pub Gives : Result Value ConstFault → Result Value ConstFault → Type 0
Gives want (Ok v) = want ≡ Ok v
Gives want (Err DivByZero) = want ≡ Err DivByZero
Gives want (Err ConstTooBig) = want ≡ Err ConstTooBig
Gives want (Err NotRepresentable) = want ≡ Err NotRepresentable
Gives want (Err BadShift) = want ≡ Err BadShift
Gives want (Err NoMemory) = TakesMemory want
