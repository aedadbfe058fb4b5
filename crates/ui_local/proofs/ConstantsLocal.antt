-- The rules of constants are local: they ask the environment for nothing, and what they give has the type of an operand.
use Rattle.std.specs.Prelude.{ℕ, List, Option, Some, None, is_some, Ok, Err, IfOk}
use Rattle.ui_base.specs.declared.value.Spot.{Spot}
use Rattle.ui_base.specs.declared.value.Value.{Value}
use Rattle.ui_base.specs.declared.value.Value.TheVariants.{Whole, Str, Truth}
use Rattle.ui_base.specs.declared.kind.Basic.{Basic}
use Rattle.ui_base.specs.declared.kind.BinOp.{BinOp}
use Rattle.ui_base.specs.declared.kind.UnOp.{UnOp}
use Rattle.ui_types.specs.Ty.{Ty}
use Rattle.ui_const.specs.Kinds.{holds}
use Rattle.ui_const.specs.Operators.{Answer, operation, unary_operation, shift_operation}
use Rattle.ui_scopes.specs.Operands.{OperandTree}
use Rattle.ui_types.specs.Same.{same_type}
use Rattle.ui_scopes.specs.Steps.{Checks}
use Rattle.ui_scopes.specs.Local.{Names, TypeIn, OperandIn, no_package, Same, same_then, same_ok, same_err, same_if}
use Rattle.ui_rules.specs.Kinds.{is_untyped, later, suits, is_equality, is_comparison}
use Rattle.ui_rules.specs.Constants.{Constant, held, converted, mixed, paired, assignable, matched, computed, operated, shift_answer, constant_shift, constant_operation, constant_binary, constant_prefix, plus_value, constant_plus}

-- the same in both environments, and no package
abbrev pub SameValue : Names → Checks OperandTree → Checks OperandTree → Type 0
SameValue S m m' = Same (OperandIn S no_package) m m'

-- it asks no environment
abbrev pub Local : Names → Checks OperandTree → Type 0
Local S m = SameValue S m m

abbrev pub ConstantIn : Names → Constant → Type 0
ConstantIn S x = TypeIn S x.ty

abbrev PairIn : Names → Constant × Constant → Type 0
PairIn S p = ConstantIn S p.0 × ConstantIn S p.1

abbrev AnyValue : Value → Type 0
AnyValue v = Unit {0}

module _ (S : Names) (file : List ℕ) (at : Spot) where
  held_local : (x : Constant) → ConstantIn S x → Local S (held file at x)
  held_local x h = same_if (holds x.kind x.value) (same_ok (h, h)) same_err

  -- ---- two operands of one type

  converted_local : (x y : Constant) → ConstantIn S y → Same (ConstantIn S) (converted file at x y) (converted file at x y)
  converted_local x y h = same_if (holds y.kind x.value) (same_ok h) (same_if (suits y.kind x.value) same_err same_err)

  mixed_local : (v u : Value) (k : Option Basic) → Same (PairIn S) (mixed file at v u k) (mixed file at v u k)
  mixed_local v u None = same_err
  mixed_local v u (Some k) = same_ok (tt, tt)

  paired_local : (x y : Constant) → ConstantIn S x → ConstantIn S y → Same (PairIn S) (paired file at x y) (paired file at x y)
  paired_local x y h k =
      same_if (is_untyped x.kind)
      (same_if (is_untyped y.kind) (mixed_local x.value y.value (later x.kind y.kind)) (same_then (converted_local x y k) (λ z i. same_ok (i, k))))
      (same_if (is_untyped y.kind) (same_then (converted_local y x h) (λ z i. same_ok (h, i))) (same_if (same_type x.ty y.ty) (same_ok (h, k)) same_err))

  assignable_local : (m : Checks (Constant × Constant)) → IfOk m (PairIn S) → Same (PairIn S) (assignable file at m) (assignable file at m)
  assignable_local (Ok p) h = same_ok h
  assignable_local (Err e) h = same_err

  matched_local : (op : BinOp) (x y : Constant) → ConstantIn S x → ConstantIn S y → Same (PairIn S) (matched file at op x y) (matched file at op x y)
  matched_local op x y h k = same_if (is_equality op) (assignable_local (paired file at x y) (paired_local x y h k).within) (paired_local x y h k)

  -- ---- operators

  computed_local : (a : Answer) → Same AnyValue (computed file at a) (computed file at a)
  computed_local None = same_err
  computed_local (Some (Ok v)) = same_ok tt
  computed_local (Some (Err e)) = same_err

  operated_local : (op : BinOp) (x : Constant) (v : Value) → ConstantIn S x → Local S (operated file at op x v)
  operated_local op x v h = same_if (is_comparison op) (same_ok (tt, tt)) (held_local (record x { value = v }) h)

  constant_shift_local : (op : BinOp) (x y : Constant) → ConstantIn S x → Local S (constant_shift file at op x y)
  constant_shift_local op x y h = same_then (computed_local (shift_answer op x.value y.value)) (λ v i. held_local (record x { value = v }) h)

  constant_operation_local : (op : BinOp) (x y : Constant) → ConstantIn S x → ConstantIn S y → Local S (constant_operation file at op x y)
  constant_operation_local op x y h k =
      same_then (matched_local op x y h k) (λ p i. same_then (computed_local (operation op p.0.value p.1.value)) (λ v j. operated_local op p.0 v i.0))

  pub constant_binary_local : (op : BinOp) (x y : Constant) → ConstantIn S x → ConstantIn S y → Local S (constant_binary file at op x y)
  constant_binary_local op x y h k = same_if (is_some (shift_operation op)) (constant_shift_local op x y h) (constant_operation_local op x y h k)

  pub constant_prefix_local : (op : UnOp) (x : Constant) → ConstantIn S x → Local S (constant_prefix file at op x)
  constant_prefix_local op x h = same_then (computed_local (unary_operation op x.value x.kind)) (λ v i. same_ok (h, h))

  plus_value_local : (t : Ty) (v : Value) → TypeIn S t → Local S (plus_value file at t v)
  plus_value_local t (Whole z) h = same_ok (h, h)
  plus_value_local t (Str s) h = same_err
  plus_value_local t (Truth b) h = same_err

  pub constant_plus_local : (x : Constant) → ConstantIn S x → Local S (constant_plus file at x)
  constant_plus_local x h = plus_value_local x.ty x.value h
