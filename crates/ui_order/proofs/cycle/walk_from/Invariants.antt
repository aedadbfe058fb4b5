use Rattle.std.proofs.Common.{◌≡◌, true}
use Rattle.ui_order.specs.Components.{place_in, is_seen, AreKept, IsWalk, left}
use Rattle.ui_order.proofs.cycle.walk_from.Given as goal

abbrev pub invariant-loop-at : goal.invariant-loop-at
invariant-loop-at l = record { walked : IsWalk l.links l.walk; kept : AreKept l.fn.walk.places.items l.walk.places.items; seen : is_seen (place_in l.walk.places.items l.start) ≡ true }

abbrev pub decreases-loop-at : goal.decreases-loop-at
decreases-loop-at l = left l.links l.walk
