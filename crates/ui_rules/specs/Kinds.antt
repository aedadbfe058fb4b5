-- Kinds of constants. Go specification, "Constants", "Constant expressions".
use Rattle.std.specs.Prelude.{Bool, true, false, Option, Some, None, is_some}
use Rattle.ui_base.specs.declared.value.Value.{Value}
use Rattle.ui_base.specs.declared.value.Value.TheVariants.{Whole, Str, Truth}
use Rattle.ui_base.specs.declared.kind.BinOp.{BinOp}
use Rattle.ui_base.specs.declared.kind.BinOp.TheVariants.{Add, Sub, Mul, Div, Rem, And, Or, Xor, AndNot, Shl, Shr, Equal, NotEqual, Less, LessEqual, Greater, GreaterEqual, LogicalAnd, LogicalOr}
use Rattle.ui_base.specs.declared.kind.Basic.{Basic}
use Rattle.ui_base.specs.declared.kind.Basic.TheVariants.{Bool as BoolKind, Int, Int8, Int16, Int32, Int64, Uint, Uint8, Uint16, Uint32, Uint64, String, UntypedBool, UntypedInt, UntypedRune, UntypedString, UntypedNil}
use Rattle.ui_base.specs.declared.fault.FaultKind.{FaultKind}
use Rattle.ui_base.specs.declared.fault.FaultKind.TheVariants as fault
use Rattle.ui_const.specs.Kinds.{bounds, is_text, is_truth}
use Rattle.ui_const.specs.declared.fault.ConstFault.{ConstFault}
use Rattle.ui_const.specs.declared.fault.ConstFault.TheVariants.{DivByZero, ConstTooBig, NotRepresentable, BadShift, NoMemory}

-- "Constants": the kinds of constants that have no type yet
abbrev pub is_untyped : Basic → Bool
is_untyped UntypedBool = true
is_untyped UntypedInt = true
is_untyped UntypedRune = true
is_untyped UntypedString = true
is_untyped UntypedNil = true
is_untyped BoolKind = false
is_untyped Int = false
is_untyped Int8 = false
is_untyped Int16 = false
is_untyped Int32 = false
is_untyped Int64 = false
is_untyped Uint = false
is_untyped Uint8 = false
is_untyped Uint16 = false
is_untyped Uint32 = false
is_untyped Uint64 = false
is_untyped String = false

-- "Constant expressions": of two untyped constants the result has the kind that is later in the list integer, rune
abbrev pub later : Basic → Basic → Option Basic
later UntypedBool UntypedBool = Some UntypedBool
later UntypedInt UntypedInt = Some UntypedInt
later UntypedInt UntypedRune = Some UntypedRune
later UntypedRune UntypedInt = Some UntypedRune
later UntypedRune UntypedRune = Some UntypedRune
later UntypedString UntypedString = Some UntypedString
later _ _ = None

-- "Constants": the type that an untyped constant takes where no other is asked
abbrev pub default_kind : Basic → Basic
default_kind UntypedBool = BoolKind
default_kind UntypedInt = Int
default_kind UntypedRune = Int32
default_kind UntypedString = String
default_kind kind = kind

-- whether the values of the kind are such as this one: whole numbers, texts or truth values
abbrev pub suits : Basic → Value → Bool
suits kind (Whole z) = is_some (bounds kind)
suits kind (Str text) = is_text kind
suits kind (Truth b) = is_truth kind

-- "Comparison operators": the equality operators
abbrev pub is_equality : BinOp → Bool
is_equality Equal = true
is_equality NotEqual = true
is_equality Add = false
is_equality Sub = false
is_equality Mul = false
is_equality Div = false
is_equality Rem = false
is_equality And = false
is_equality Or = false
is_equality Xor = false
is_equality AndNot = false
is_equality Shl = false
is_equality Shr = false
is_equality Less = false
is_equality LessEqual = false
is_equality Greater = false
is_equality GreaterEqual = false
is_equality LogicalAnd = false
is_equality LogicalOr = false

-- "Comparison operators": these and the ordering operators
abbrev pub is_comparison : BinOp → Bool
is_comparison Equal = true
is_comparison NotEqual = true
is_comparison Less = true
is_comparison LessEqual = true
is_comparison Greater = true
is_comparison GreaterEqual = true
is_comparison Add = false
is_comparison Sub = false
is_comparison Mul = false
is_comparison Div = false
is_comparison Rem = false
is_comparison And = false
is_comparison Or = false
is_comparison Xor = false
is_comparison AndNot = false
is_comparison Shl = false
is_comparison Shr = false
is_comparison LogicalAnd = false
is_comparison LogicalOr = false

-- the fault of an operation on constants; no operation's result is want of memory
abbrev pub const_kind : ConstFault → FaultKind
const_kind DivByZero = fault.DivByZero
const_kind ConstTooBig = fault.ConstTooBig
const_kind NotRepresentable = fault.NotRepresentable
const_kind BadShift = fault.BadShift
const_kind NoMemory = fault.BadOperand

-- A form that isn't taken yet. No rule of checking gives this kind for anything else.
abbrev pub not_taken : FaultKind
not_taken = fault.Form
