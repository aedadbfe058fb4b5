use Rattle.std.proofs.Common.{◌≤◌}
use Rattle.ui_order.specs.Components.{IsClosed}
use Rattle.ui_order.proofs.cycle.close.Given as goal

abbrev pub invariant-loop-i : goal.invariant-loop-i
invariant-loop-i l = record { from : l.from ≤ l.i; closed : IsClosed l.from l.i l.is_on_cycle l.initial.places.items l.places.items }
