-- Operators behind their operands, in the steps that the code takes.
use Rattle.std.specs.Prelude.{ℕ, List}
use Rattle.ui_base.specs.declared.value.Spot.{Spot}
use Rattle.ui_base.specs.declared.kind.BinOp.{BinOp}
use Rattle.ui_base.specs.declared.kind.UnOp.{UnOp}
use Rattle.ui_scopes.specs.Operands.{OperandTree}
use Rattle.ui_scopes.specs.Scopes.{World}
use Rattle.ui_scopes.specs.Steps.{Checks, ◌>>=◌}
use Rattle.ui_rules.specs.Constants.{Constant, constant_binary, constant_prefix, constant_plus}
use Rattle.ui_rules.specs.Forms.{constant_of}

abbrev pub plus_operand : World → List ℕ → Spot → OperandTree → Checks OperandTree
plus_operand w file at x = constant_of w file at x >>= constant_plus file at

abbrev pub prefix_operand : World → List ℕ → Spot → UnOp → OperandTree
    → Checks OperandTree
prefix_operand w file at op x = constant_of w file at x >>= constant_prefix file at op

-- a binary operator behind its first operand
abbrev pub second_operand : World → List ℕ → Spot → BinOp → Constant → OperandTree
    → Checks OperandTree
second_operand w file at op a y = constant_of w file at y >>= λ b. constant_binary file at op a b
