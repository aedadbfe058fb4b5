use Rattle.std.proofs.Common.{◌≡◌, ◌<◌, ◌≤◌, ℕ, get_or, true, false}
use Rattle.ui_order.proofs.plan.first_untaken.Given as goal

abbrev pub invariant-loop-i : goal.invariant-loop-i
invariant-loop-i l = (k : ℕ) → l.from ≤ k → k < l.i → get_or l.taken (get_or l.links k 0) false ≡ true
