use Rattle.std.proofs.Common.{List, ℕ, drop}
use Rattle.ui_order.specs.Numbers.{IsSized, IsPlan}
use Rattle.ui_order.proofs.plan.look_at.Given as goal

abbrev pub invariant-loop-k : goal.invariant-loop-k
invariant-loop-k l = record { sized : IsSized l.links l.plan; planned : (order : List ℕ) → IsPlan l.links order l.numbers l.fn.plan → IsPlan l.links order (drop l.k-index l.numbers) l.plan }
