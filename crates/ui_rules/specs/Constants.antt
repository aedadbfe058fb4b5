-- Operators on constant operands. Go specification, "Constant expressions", "Operators".
use Rattle.std.specs.Prelude.{◌≡◌, ℕ, ℤ, Bool, false, List, Option, Some, None, is_some, Result, Ok, Err, if◌then◌else◌}
use Rattle.ui_base.specs.declared.value.Spot.{Spot}
use Rattle.ui_base.specs.declared.value.Value.{Value}
use Rattle.ui_base.specs.declared.value.Value.TheVariants.{Whole, Str, Truth}
use Rattle.ui_base.specs.declared.kind.Basic.{Basic}
use Rattle.ui_base.specs.declared.kind.Basic.TheVariants.{UntypedBool}
use Rattle.ui_base.specs.declared.kind.BinOp.{BinOp}
use Rattle.ui_base.specs.declared.kind.UnOp.{UnOp}
use Rattle.ui_base.specs.declared.fault.FaultKind.TheVariants as fault
use Rattle.ui_types.specs.Ty.{Ty, basic}
use Rattle.ui_const.specs.Kinds.{holds}
use Rattle.ui_const.specs.Operators.{Answer, operation, unary_operation, shift_operation}
use Rattle.ui_const.specs.declared.fault.ConstFault.{ConstFault}
use Rattle.ui_core.specs.Checked as checked
use Rattle.ui_scopes.specs.Operands.{OperandTree, value}
use Rattle.ui_types.specs.Same.{same_type}
use Rattle.ui_scopes.specs.Steps.{Checks, ◌>>=◌, refuse}
use Rattle.ui_rules.specs.Kinds.{is_untyped, later, suits, is_equality, is_comparison, const_kind}

-- a constant of a type, whose underlying type is of the kind
pub record Constant : Type 0 where
  pub ty : Ty
  pub kind : Basic
  pub value : Value

-- as an operand: a constant expression is one node
abbrev pub constant_operand : Ty → Value → OperandTree
constant_operand t v = value (checked.constant t v) t (Some v) false

-- "Constant expressions": the value of a typed constant must be representable in its type
abbrev pub held : List ℕ → Spot → Constant → Checks OperandTree
held file at x = if holds x.kind x.value then Ok (constant_operand x.ty x.value) else refuse file at fault.NotRepresentable

-- ---- two operands of one type

-- "Operators": an untyped constant beside a typed operand takes that one's type
abbrev pub converted : List ℕ → Spot → Constant → Constant → Checks Constant
converted file at x y =
    if holds y.kind x.value then Ok (record y { value = x.value })
    else (if suits y.kind x.value then refuse file at fault.NotRepresentable else refuse file at fault.MismatchedTypes)

-- "Constant expressions": two untyped constants take the later kind
abbrev pub mixed : List ℕ → Spot → Value → Value → Option Basic → Checks (Constant × Constant)
mixed file at v w None = refuse file at fault.MismatchedTypes
mixed file at v w (Some kind) = Ok (record { ty = basic kind; kind = kind; value = v }, record { ty = basic kind; kind = kind; value = w })

-- "Operators": the operand types must be identical unless the operation involves shifts or untyped constants
abbrev pub paired : List ℕ → Spot → Constant → Constant → Checks (Constant × Constant)
paired file at x y =
    if is_untyped x.kind then
    (if is_untyped y.kind then mixed file at x.value y.value (later x.kind y.kind)
    else (converted file at x y >>= λ z. Ok (z, y)))
    else
    (if is_untyped y.kind then (converted file at y x >>= λ z. Ok (x, z))
    else (if same_type x.ty y.ty then Ok (x, y) else refuse file at fault.MismatchedTypes))

-- "Comparison operators": for `==` and `!=` one operand must be assignable to the type of the other
abbrev pub assignable : List ℕ → Spot → Checks (Constant × Constant) → Checks (Constant × Constant)
assignable file at (Ok p) = Ok p
assignable file at (Err e) = refuse file at fault.NotComparable

abbrev pub matched : List ℕ → Spot → BinOp → Constant → Constant → Checks (Constant × Constant)
matched file at op x y = if is_equality op then assignable file at (paired file at x y) else paired file at x y

-- ---- operators

-- the value of an operation, where it is allowed
abbrev pub computed : List ℕ → Spot → Answer → Checks Value
computed file at None = refuse file at fault.BadOperand
computed file at (Some (Ok v)) = Ok v
computed file at (Some (Err e)) = refuse file at (const_kind e)

-- "Constant expressions": a comparison gives an untyped truth value, any other operator a constant of the operands' type
abbrev pub operated : List ℕ → Spot → BinOp → Constant → Value → Checks OperandTree
operated file at op x v = if is_comparison op then Ok (constant_operand (basic UntypedBool) v) else held file at (record x { value = v })

abbrev pub shifted : Result ℤ ConstFault → Result Value ConstFault
shifted (Ok z) = Ok (Whole z)
shifted (Err e) = Err e

abbrev pub whole_shift : Option (ℤ → ℤ → Result ℤ ConstFault) → ℤ → ℤ → Answer
whole_shift None a n = None
whole_shift (Some f) a n = Some (shifted (f a n))

-- "Operators": both operands of a shift are whole numbers
abbrev pub shift_answer : BinOp → Value → Value → Answer
shift_answer op (Whole a) (Whole n) = whole_shift (shift_operation op) a n
shift_answer op (Whole a) (Str s) = None
shift_answer op (Whole a) (Truth b) = None
shift_answer op (Str a) n = None
shift_answer op (Truth a) n = None

-- "Constant expressions": a shift gives a constant of the left operand's type
abbrev pub constant_shift : List ℕ → Spot → BinOp → Constant → Constant → Checks OperandTree
constant_shift file at op x y = computed file at (shift_answer op x.value y.value) >>= λ v. held file at (record x { value = v })

abbrev pub constant_operation : List ℕ → Spot → BinOp → Constant → Constant → Checks OperandTree
constant_operation file at op x y =
    matched file at op x y >>= λ p. computed file at (operation op p.0.value p.1.value) >>= λ v. operated file at op p.0 v

abbrev pub constant_binary : List ℕ → Spot → BinOp → Constant → Constant → Checks OperandTree
constant_binary file at op x y = if is_some (shift_operation op) then constant_shift file at op x y else constant_operation file at op x y

-- "Arithmetic operators", "Logical operators": `-x`, `^x`, `!x`
abbrev pub constant_prefix : List ℕ → Spot → UnOp → Constant → Checks OperandTree
constant_prefix file at op x = computed file at (unary_operation op x.value x.kind) >>= λ v. Ok (constant_operand x.ty v)

-- "Arithmetic operators": `+x` is x
abbrev pub plus_value : List ℕ → Spot → Ty → Value → Checks OperandTree
plus_value file at t (Whole z) = Ok (constant_operand t (Whole z))
plus_value file at t (Str s) = refuse file at fault.BadOperand
plus_value file at t (Truth b) = refuse file at fault.BadOperand

abbrev pub constant_plus : List ℕ → Spot → Constant → Checks OperandTree
constant_plus file at x = plus_value file at x.ty x.value
