-- An operator's token is that operator.
use Rattle.std.proofs.Common.{◌≡◌, Some, refl}
use Rattle.ui_base.specs.declared.kind.BinOp.{BinOp}
use Rattle.ui_base.specs.declared.kind.BinOp.TheVariants as op
use Rattle.ui_tree.specs.declared.part.PrefixOp.{PrefixOp}
use Rattle.ui_tree.specs.declared.part.PrefixOp.TheVariants as prefix
use Rattle.ui_grammar.specs.Operator.{mark_of, operator_of, prefix_mark_of, prefix_of}

pub operator_of-mark_of : (o : BinOp) → operator_of (mark_of o) ≡ Some o
operator_of-mark_of op.Add = refl
operator_of-mark_of op.Sub = refl
operator_of-mark_of op.Mul = refl
operator_of-mark_of op.Div = refl
operator_of-mark_of op.Rem = refl
operator_of-mark_of op.And = refl
operator_of-mark_of op.Or = refl
operator_of-mark_of op.Xor = refl
operator_of-mark_of op.AndNot = refl
operator_of-mark_of op.Shl = refl
operator_of-mark_of op.Shr = refl
operator_of-mark_of op.Equal = refl
operator_of-mark_of op.NotEqual = refl
operator_of-mark_of op.Less = refl
operator_of-mark_of op.LessEqual = refl
operator_of-mark_of op.Greater = refl
operator_of-mark_of op.GreaterEqual = refl
operator_of-mark_of op.LogicalAnd = refl
operator_of-mark_of op.LogicalOr = refl

pub prefix_of-mark_of : (o : PrefixOp) → prefix_of (prefix_mark_of o) ≡ Some o
prefix_of-mark_of prefix.Plus = refl
prefix_of-mark_of prefix.Minus = refl
prefix_of-mark_of prefix.Not = refl
prefix_of-mark_of prefix.Flip = refl
prefix_of-mark_of prefix.Deref = refl
prefix_of-mark_of prefix.Address = refl
