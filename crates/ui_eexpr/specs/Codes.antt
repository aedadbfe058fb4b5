-- The codes of operators and of predeclared functions. This project's own. Go specification,
-- "Operators", "Built-in functions".
use Rattle.std.specs.Prelude.{ℕ, nat_eq, if◌then◌else◌}
use Rattle.ui_strpos.specs.Elements.{code_below}
use Rattle.ui_strpos.specs.Format.{Format, uint_field, via}
use Rattle.ui_base.specs.declared.kind.BinOp.{BinOp}
use Rattle.ui_base.specs.declared.kind.BinOp.TheVariants as bin
use Rattle.ui_base.specs.declared.kind.UnOp.{UnOp}
use Rattle.ui_base.specs.declared.kind.UnOp.TheVariants as un
use Rattle.ui_core.specs.declared.callee.BuiltinFn.{BuiltinFn}
use Rattle.ui_core.specs.declared.callee.BuiltinFn.TheVariants as fn

abbrev pub unary_code : UnOp → ℕ
unary_code un.Neg = 0
unary_code un.Flip = 1
unary_code un.Not = 2

abbrev pub unary_of : ℕ → UnOp
unary_of n =
    if nat_eq n 0 then un.Neg else
    if nat_eq n 1 then un.Flip else
    un.Not

abbrev pub unary : Format UnOp
unary = via unary_of unary_code (uint_field (code_below 3))

abbrev pub binary_code : BinOp → ℕ
binary_code bin.Add = 0
binary_code bin.Sub = 1
binary_code bin.Mul = 2
binary_code bin.Div = 3
binary_code bin.Rem = 4
binary_code bin.And = 5
binary_code bin.Or = 6
binary_code bin.Xor = 7
binary_code bin.AndNot = 8
binary_code bin.Shl = 9
binary_code bin.Shr = 10
binary_code bin.Equal = 11
binary_code bin.NotEqual = 12
binary_code bin.Less = 13
binary_code bin.LessEqual = 14
binary_code bin.Greater = 15
binary_code bin.GreaterEqual = 16
binary_code bin.LogicalAnd = 17
binary_code bin.LogicalOr = 18

abbrev pub binary_of : ℕ → BinOp
binary_of n =
    if nat_eq n 0 then bin.Add else
    if nat_eq n 1 then bin.Sub else
    if nat_eq n 2 then bin.Mul else
    if nat_eq n 3 then bin.Div else
    if nat_eq n 4 then bin.Rem else
    if nat_eq n 5 then bin.And else
    if nat_eq n 6 then bin.Or else
    if nat_eq n 7 then bin.Xor else
    if nat_eq n 8 then bin.AndNot else
    if nat_eq n 9 then bin.Shl else
    if nat_eq n 10 then bin.Shr else
    if nat_eq n 11 then bin.Equal else
    if nat_eq n 12 then bin.NotEqual else
    if nat_eq n 13 then bin.Less else
    if nat_eq n 14 then bin.LessEqual else
    if nat_eq n 15 then bin.Greater else
    if nat_eq n 16 then bin.GreaterEqual else
    if nat_eq n 17 then bin.LogicalAnd else
    bin.LogicalOr

abbrev pub binary : Format BinOp
binary = via binary_of binary_code (uint_field (code_below 19))

abbrev pub builtin_code : BuiltinFn → ℕ
builtin_code fn.Append = 0
builtin_code fn.AppendSpread = 1
builtin_code fn.Cap = 2
builtin_code fn.Copy = 3
builtin_code fn.Delete = 4
builtin_code fn.Len = 5
builtin_code fn.Make = 6
builtin_code fn.Max = 7
builtin_code fn.Min = 8
builtin_code fn.New = 9
builtin_code fn.Panic = 10

abbrev pub builtin_of : ℕ → BuiltinFn
builtin_of n =
    if nat_eq n 0 then fn.Append else
    if nat_eq n 1 then fn.AppendSpread else
    if nat_eq n 2 then fn.Cap else
    if nat_eq n 3 then fn.Copy else
    if nat_eq n 4 then fn.Delete else
    if nat_eq n 5 then fn.Len else
    if nat_eq n 6 then fn.Make else
    if nat_eq n 7 then fn.Max else
    if nat_eq n 8 then fn.Min else
    if nat_eq n 9 then fn.New else
    fn.Panic

abbrev pub builtin : Format BuiltinFn
builtin = via builtin_of builtin_code (uint_field (code_below 11))
