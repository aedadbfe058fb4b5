-- Operators on constants, each with the operands that it is allowed on: None where it is not. Go specification, "Arithmetic
-- operators", "Comparison operators", "Logical operators", "Constant expressions".
use Rattle.std.specs.Prelude.{ℕ, ◌^◌, ℤ, pos, negsuc, ◌+ℤ◌, ◌-ℤ◌, ◌*ℤ◌, neg_ℤ, int_div, int_rem, Bool, not, ◌&&◌, ◌||◌, List, ◌++◌, Option, Some, None, Result, Ok, Err, if◌then◌else◌}
use Rattle.std.specs.Ordering.{nat_cmp, int_cmp, int_eq, bool_cmp, is_eq, is_ne, is_lt, is_le, is_gt, is_ge}
use Rattle.std.specs.Cmp.Lexicographic.{slice_cmp}
use Rattle.std.specs.Int.{int_shr}
use Rattle.ui_base.specs.declared.kind.Basic.{Basic}
use Rattle.ui_base.specs.declared.kind.BinOp.{BinOp}
use Rattle.ui_base.specs.declared.kind.BinOp.TheVariants.{Add, Sub, Mul, Div, Rem, And, Or, Xor, AndNot, Shl, Shr, Equal, NotEqual, Less, LessEqual, Greater, GreaterEqual, LogicalAnd, LogicalOr}
use Rattle.ui_base.specs.declared.kind.UnOp.{UnOp}
use Rattle.ui_base.specs.declared.kind.UnOp.TheVariants.{Neg, Flip, Not}
use Rattle.ui_base.specs.declared.value.Value.{Value}
use Rattle.ui_base.specs.declared.value.Value.TheVariants.{Whole, Str, Truth}
use Rattle.ui_const.specs.Kinds.{bounds, is_within}
use Rattle.ui_const.specs.Bits.{whole_and, whole_or, whole_xor, whole_and_not}
use Rattle.ui_const.specs.Results.{is_constant, limited, limited_whole, limited_text}
use Rattle.ui_const.specs.declared.fault.ConstFault.{ConstFault}
use Rattle.ui_const.specs.declared.fault.ConstFault.TheVariants.{DivByZero, ConstTooBig, NotRepresentable, BadShift}

-- what an operator gives, where it is allowed
abbrev pub Answer : Type 0
Answer = Option (Result Value ConstFault)

abbrev pub says : Bool → Answer
says b = Some (Ok (Truth b))

abbrev pub gives_whole : ℤ → Answer
gives_whole z = Some (limited_whole z)

-- "Integer operators": the quotient is truncated toward zero, and the remainder has the sign of a
abbrev pub quotient : ℤ → ℤ → Result Value ConstFault
quotient a b = if int_eq b (pos 0) then Err DivByZero else limited_whole (int_div a b)

abbrev pub remainder : ℤ → ℤ → Result Value ConstFault
remainder a b = if int_eq b (pos 0) then Err DivByZero else limited_whole (int_rem a b)

-- operators on two whole numbers
abbrev pub whole_operation : BinOp → ℤ → ℤ → Answer
whole_operation Add a b = gives_whole (a +ℤ b)
whole_operation Sub a b = gives_whole (a -ℤ b)
whole_operation Mul a b = gives_whole (a *ℤ b)
whole_operation Div a b = Some (quotient a b)
whole_operation Rem a b = Some (remainder a b)
whole_operation And a b = gives_whole (whole_and a b)
whole_operation Or a b = gives_whole (whole_or a b)
whole_operation Xor a b = gives_whole (whole_xor a b)
whole_operation AndNot a b = gives_whole (whole_and_not a b)
whole_operation Shl a b = None
whole_operation Shr a b = None
whole_operation Equal a b = says (is_eq (int_cmp a b))
whole_operation NotEqual a b = says (is_ne (int_cmp a b))
whole_operation Less a b = says (is_lt (int_cmp a b))
whole_operation LessEqual a b = says (is_le (int_cmp a b))
whole_operation Greater a b = says (is_gt (int_cmp a b))
whole_operation GreaterEqual a b = says (is_ge (int_cmp a b))
whole_operation LogicalAnd a b = None
whole_operation LogicalOr a b = None

-- operators on two texts: concatenation, and comparison by bytes
abbrev pub text_operation : BinOp → List ℕ → List ℕ → Answer
text_operation Add a b = Some (limited_text (a ++ b))
text_operation Sub a b = None
text_operation Mul a b = None
text_operation Div a b = None
text_operation Rem a b = None
text_operation And a b = None
text_operation Or a b = None
text_operation Xor a b = None
text_operation AndNot a b = None
text_operation Shl a b = None
text_operation Shr a b = None
text_operation Equal a b = says (is_eq (slice_cmp nat_cmp a b))
text_operation NotEqual a b = says (is_ne (slice_cmp nat_cmp a b))
text_operation Less a b = says (is_lt (slice_cmp nat_cmp a b))
text_operation LessEqual a b = says (is_le (slice_cmp nat_cmp a b))
text_operation Greater a b = says (is_gt (slice_cmp nat_cmp a b))
text_operation GreaterEqual a b = says (is_ge (slice_cmp nat_cmp a b))
text_operation LogicalAnd a b = None
text_operation LogicalOr a b = None

-- operators on two truth values
abbrev pub truth_operation : BinOp → Bool → Bool → Answer
truth_operation Add a b = None
truth_operation Sub a b = None
truth_operation Mul a b = None
truth_operation Div a b = None
truth_operation Rem a b = None
truth_operation And a b = None
truth_operation Or a b = None
truth_operation Xor a b = None
truth_operation AndNot a b = None
truth_operation Shl a b = None
truth_operation Shr a b = None
truth_operation Equal a b = says (is_eq (bool_cmp a b))
truth_operation NotEqual a b = says (is_ne (bool_cmp a b))
truth_operation Less a b = None
truth_operation LessEqual a b = None
truth_operation Greater a b = None
truth_operation GreaterEqual a b = None
truth_operation LogicalAnd a b = says (a && b)
truth_operation LogicalOr a b = says (a || b)

-- a binary operator, shifts apart
abbrev pub operation : BinOp → Value → Value → Answer
operation op (Whole a) (Whole b) = whole_operation op a b
operation op (Whole a) (Str b) = None
operation op (Whole a) (Truth b) = None
operation op (Str a) (Whole b) = None
operation op (Str a) (Str b) = text_operation op a b
operation op (Str a) (Truth b) = None
operation op (Truth a) (Whole b) = None
operation op (Truth a) (Str b) = None
operation op (Truth a) (Truth b) = truth_operation op a b

-- a whole number of a kind
abbrev pub typed : Option (ℤ × ℤ) → ℤ → Result Value ConstFault
typed range z = if is_constant z then (if is_within range z then Ok (Whole z) else Err NotRepresentable) else Err ConstTooBig

-- "Arithmetic operators": `^x` is `m ^ x`, with all bits of m set for an unsigned x, and m = -1 for another
abbrev pub mask_between : ℤ → ℤ → ℤ
mask_between (pos low) high = high
mask_between (negsuc low) high = negsuc 0

abbrev pub mask : Option (ℤ × ℤ) → ℤ
mask None = negsuc 0
mask (Some range) = mask_between range.0 range.1

-- an operand that its kind holds
abbrev pub held : Option (ℤ × ℤ) → ℤ → ℤ → Answer
held range z result = if is_within range z then Some (typed range result) else None

-- a unary operator on a value of a kind
abbrev pub unary_operation : UnOp → Value → Basic → Answer
unary_operation Neg (Whole z) kind = held (bounds kind) z (neg_ℤ z)
unary_operation Neg (Str text) kind = None
unary_operation Neg (Truth b) kind = None
unary_operation Flip (Whole z) kind = held (bounds kind) z (whole_xor (mask (bounds kind)) z)
unary_operation Flip (Str text) kind = None
unary_operation Flip (Truth b) kind = None
unary_operation Not (Whole z) kind = None
unary_operation Not (Str text) kind = None
unary_operation Not (Truth b) kind = says (not b)

-- "Integer operators": `a << n` is a times 2^n, and `a >> n` is a divided by 2^n and rounded down
abbrev pub shifted_left : ℤ → ℤ → Result ℤ ConstFault
shifted_left a (pos n) = limited (a *ℤ pos (2 ^ n))
shifted_left a (negsuc n) = Err BadShift

abbrev pub shifted_right : ℤ → ℤ → Result ℤ ConstFault
shifted_right a (pos n) = Ok (int_shr a n)
shifted_right a (negsuc n) = Err BadShift

-- what a shift operator does to a number and a count; no other operator shifts
abbrev pub shift_operation : BinOp → Option (ℤ → ℤ → Result ℤ ConstFault)
shift_operation Add = None
shift_operation Sub = None
shift_operation Mul = None
shift_operation Div = None
shift_operation Rem = None
shift_operation And = None
shift_operation Or = None
shift_operation Xor = None
shift_operation AndNot = None
shift_operation Shl = Some shifted_left
shift_operation Shr = Some shifted_right
shift_operation Equal = None
shift_operation NotEqual = None
shift_operation Less = None
shift_operation LessEqual = None
shift_operation Greater = None
shift_operation GreaterEqual = None
shift_operation LogicalAnd = None
shift_operation LogicalOr = None
