use Rattle.std.proofs.Common.{◌≡◌, ℕ, ◌<◌, true}
use Rattle.ui_order.specs.Components.{place_in, is_seen, IsAtRest}
use Rattle.ui_order.proofs.cycle.walk_all.Given as goal

abbrev pub invariant-loop-k : goal.invariant-loop-k
invariant-loop-k l = record { rest : IsAtRest l.links l.walk; seen : (q : ℕ) → q < l.k → is_seen (place_in l.walk.places.items q) ≡ true }
