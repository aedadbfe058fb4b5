use Rattle.std.proofs.Common.{arith}
use Rattle.ui_order.proofs.StepLemmas.{rest_done}
use Rattle.ui_order.proofs.cycle.walk_all.Goals as goal

pub returns-clause-done : goal.returns-clause-done
returns-clause-done c = λ k l. rest_done c.args.links.now c.loop-k.walk c.loop-k.invariant.rest k (c.loop-k.invariant.seen k (omega arith))
