-- Operators and their levels. Go specification, "Operators" and "Operator precedence".
use Rattle.std.specs.Prelude.{ℕ, Option, Some, None}
use Rattle.ui_base.specs.declared.kind.BinOp.{BinOp}
use Rattle.ui_base.specs.declared.kind.BinOp.TheVariants as op
use Rattle.ui_scan.specs.declared.kind.TokenKind.{TokenKind}
use Rattle.ui_scan.specs.declared.kind.TokenKind.TheVariants as kind
use Rattle.ui_tree.specs.declared.part.PrefixOp.{PrefixOp}
use Rattle.ui_tree.specs.declared.part.PrefixOp.TheVariants as prefix

-- the token of a binary operator
abbrev pub mark_of : BinOp → TokenKind
mark_of op.Add = kind.Add
mark_of op.Sub = kind.Sub
mark_of op.Mul = kind.Mul
mark_of op.Div = kind.Div
mark_of op.Rem = kind.Rem
mark_of op.And = kind.And
mark_of op.Or = kind.Or
mark_of op.Xor = kind.Xor
mark_of op.AndNot = kind.AndNot
mark_of op.Shl = kind.Shl
mark_of op.Shr = kind.Shr
mark_of op.Equal = kind.Equal
mark_of op.NotEqual = kind.NotEqual
mark_of op.Less = kind.Less
mark_of op.LessEqual = kind.LessEqual
mark_of op.Greater = kind.Greater
mark_of op.GreaterEqual = kind.GreaterEqual
mark_of op.LogicalAnd = kind.LogicalAnd
mark_of op.LogicalOr = kind.LogicalOr

-- the token of an assignment with an operator; comparisons, `&&` and `||` have none
abbrev pub assign_mark_of : BinOp → Option TokenKind
assign_mark_of op.Add = Some kind.AddAssign
assign_mark_of op.Sub = Some kind.SubAssign
assign_mark_of op.Mul = Some kind.MulAssign
assign_mark_of op.Div = Some kind.DivAssign
assign_mark_of op.Rem = Some kind.RemAssign
assign_mark_of op.And = Some kind.AndAssign
assign_mark_of op.Or = Some kind.OrAssign
assign_mark_of op.Xor = Some kind.XorAssign
assign_mark_of op.AndNot = Some kind.AndNotAssign
assign_mark_of op.Shl = Some kind.ShlAssign
assign_mark_of op.Shr = Some kind.ShrAssign
assign_mark_of op.Equal = None
assign_mark_of op.NotEqual = None
assign_mark_of op.Less = None
assign_mark_of op.LessEqual = None
assign_mark_of op.Greater = None
assign_mark_of op.GreaterEqual = None
assign_mark_of op.LogicalAnd = None
assign_mark_of op.LogicalOr = None

-- the token of a unary operator
abbrev pub prefix_mark_of : PrefixOp → TokenKind
prefix_mark_of prefix.Plus = kind.Add
prefix_mark_of prefix.Minus = kind.Sub
prefix_mark_of prefix.Not = kind.Not
prefix_mark_of prefix.Flip = kind.Xor
prefix_mark_of prefix.Deref = kind.Mul
prefix_mark_of prefix.Address = kind.And

-- how tightly a binary operator binds, from 1, the weakest
abbrev pub level_of : BinOp → ℕ
level_of op.LogicalOr = 1
level_of op.LogicalAnd = 2
level_of op.Equal = 3
level_of op.NotEqual = 3
level_of op.Less = 3
level_of op.LessEqual = 3
level_of op.Greater = 3
level_of op.GreaterEqual = 3
level_of op.Add = 4
level_of op.Sub = 4
level_of op.Or = 4
level_of op.Xor = 4
level_of op.Mul = 5
level_of op.Div = 5
level_of op.Rem = 5
level_of op.Shl = 5
level_of op.Shr = 5
level_of op.And = 5
level_of op.AndNot = 5

-- ---- the operator that a token is: the other way round

abbrev pub operator_of : TokenKind → Option BinOp
operator_of kind.Add = Some op.Add
operator_of kind.Sub = Some op.Sub
operator_of kind.Mul = Some op.Mul
operator_of kind.Div = Some op.Div
operator_of kind.Rem = Some op.Rem
operator_of kind.And = Some op.And
operator_of kind.Or = Some op.Or
operator_of kind.Xor = Some op.Xor
operator_of kind.AndNot = Some op.AndNot
operator_of kind.Shl = Some op.Shl
operator_of kind.Shr = Some op.Shr
operator_of kind.Equal = Some op.Equal
operator_of kind.NotEqual = Some op.NotEqual
operator_of kind.Less = Some op.Less
operator_of kind.LessEqual = Some op.LessEqual
operator_of kind.Greater = Some op.Greater
operator_of kind.GreaterEqual = Some op.GreaterEqual
operator_of kind.LogicalAnd = Some op.LogicalAnd
operator_of kind.LogicalOr = Some op.LogicalOr
operator_of _ = None

abbrev pub prefix_of : TokenKind → Option PrefixOp
prefix_of kind.Add = Some prefix.Plus
prefix_of kind.Sub = Some prefix.Minus
prefix_of kind.Not = Some prefix.Not
prefix_of kind.Xor = Some prefix.Flip
prefix_of kind.Mul = Some prefix.Deref
prefix_of kind.And = Some prefix.Address
prefix_of _ = None

abbrev pub assignment_of : TokenKind → Option BinOp
assignment_of kind.AddAssign = Some op.Add
assignment_of kind.SubAssign = Some op.Sub
assignment_of kind.MulAssign = Some op.Mul
assignment_of kind.DivAssign = Some op.Div
assignment_of kind.RemAssign = Some op.Rem
assignment_of kind.AndAssign = Some op.And
assignment_of kind.OrAssign = Some op.Or
assignment_of kind.XorAssign = Some op.Xor
assignment_of kind.AndNotAssign = Some op.AndNot
assignment_of kind.ShlAssign = Some op.Shl
assignment_of kind.ShrAssign = Some op.Shr
assignment_of _ = None
