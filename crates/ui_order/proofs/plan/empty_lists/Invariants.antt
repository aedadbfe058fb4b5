use Rattle.std.proofs.Common.{◌≡◌, ℕ, [], vec_len}
use Rattle.ui_order.specs.Numbers.{linked}
use Rattle.ui_order.proofs.plan.empty_lists.Given as goal

abbrev pub invariant-loop : goal.invariant-loop
invariant-loop l = record { size : vec_len l.lists ≡ l.counter; empty : (j : ℕ) → linked l.lists.items j ≡ [] }
