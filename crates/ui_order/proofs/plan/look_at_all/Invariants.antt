use Rattle.std.proofs.Common.{[], length, ◌-◌}
use Rattle.std.specs.List.{range_with_len}
use Rattle.ui_order.specs.Numbers.{IsSized, IsPlan}
use Rattle.ui_order.proofs.plan.look_at_all.Given as goal

abbrev pub invariant-loop-k : goal.invariant-loop-k
invariant-loop-k l = record { sized : IsSized l.links l.plan; planned : IsPlan l.links [] (range_with_len l.k (length l.links - l.k)) l.plan }
