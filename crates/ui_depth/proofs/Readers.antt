-- The readers of each budget beside those of each budget that is greater by four at least.
use Rattle.std.proofs.Common.{ℕ, zero, suc}
use Rattle.ui_syntax.specs.Read.{readers}
use Rattle.ui_depth.proofs.Deeper.{weaker}
use Rattle.ui_depth.proofs.Budgets.{AreDeeper}
use Rattle.ui_depth.proofs.DeepTypes.{deep_maybe_type}
use Rattle.ui_depth.proofs.DeepExprs.{deep_level, deep_braces}
use Rattle.ui_depth.proofs.Nothing.{nothing_deeper}

next_deeper : (d : ℕ) → AreDeeper d → AreDeeper (suc d)
unfolding readers
next_deeper d is = record {
  level = deep_level d is;
  maybe_type = deep_maybe_type d is;
  braces = deep_braces d is;
  lower_level = λ s least. weaker (λ x w h. h.word) (is.level s least);
  lower_maybe_type = is.maybe_type;
}

pub are_deeper : (d : ℕ) → AreDeeper d
are_deeper zero = nothing_deeper
are_deeper (suc d) = next_deeper d (are_deeper d)
