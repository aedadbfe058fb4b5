use Rattle.std.specs.Prelude.{[]}
use Rattle.ui_order.specs.Numbers.{IsSized, IsPlan, IsNumberOrder, Builds, untaken}
use Rattle.ui_order.proofs.plan.in_order.Given as goal

abbrev pub invariant-loop-i : goal.invariant-loop-i
invariant-loop-i l = record { sized : IsSized l.links l.plan; planned : IsPlan l.links l.order.items [] l.plan; ordered : IsNumberOrder l.links l.order.items; builds : Builds l.links l.order.items }

abbrev pub decreases-loop-i : goal.decreases-loop-i
decreases-loop-i l = untaken l.links l.order.items
