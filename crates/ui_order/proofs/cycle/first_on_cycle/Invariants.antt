use Rattle.std.proofs.Common.{ℕ, ◌<◌}
use Rattle.ui_order.specs.Numbers.{IsNumberOnCycle}
use Rattle.ui_order.proofs.cycle.first_on_cycle.Given as goal

abbrev pub invariant-loop-k : goal.invariant-loop-k
invariant-loop-k l = (q : ℕ) → q < l.k → IsNumberOnCycle l.links q → ⊥
