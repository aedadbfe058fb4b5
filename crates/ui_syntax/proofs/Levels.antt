-- Each operator and each tree has a level from 1.
use Rattle.std.proofs.Common.{◌≤◌, arith}
use Rattle.ui_base.specs.declared.kind.BinOp.{BinOp}
use Rattle.ui_base.specs.declared.kind.BinOp.TheVariants.{Add, Sub, Mul, Div, Rem, And, Or, Xor, AndNot, Shl, Shr, Equal, NotEqual, Less, LessEqual, Greater, GreaterEqual, LogicalAnd, LogicalOr}
use Rattle.ui_tree.specs.Tree.{Tree, binary}
use Rattle.ui_grammar.specs.Operator.{level_of}
use Rattle.ui_grammar.specs.Fits.{level}

pub operator_positive : (o : BinOp) → 1 ≤ level_of o
operator_positive Add = omega arith
operator_positive Sub = omega arith
operator_positive Mul = omega arith
operator_positive Div = omega arith
operator_positive Rem = omega arith
operator_positive And = omega arith
operator_positive Or = omega arith
operator_positive Xor = omega arith
operator_positive AndNot = omega arith
operator_positive Shl = omega arith
operator_positive Shr = omega arith
operator_positive Equal = omega arith
operator_positive NotEqual = omega arith
operator_positive Less = omega arith
operator_positive LessEqual = omega arith
operator_positive Greater = omega arith
operator_positive GreaterEqual = omega arith
operator_positive LogicalAnd = omega arith
operator_positive LogicalOr = omega arith

pub level_positive : (e : Tree) → 1 ≤ level e
level_positive (binary s o l r) = operator_positive o
level_positive _ = omega arith
