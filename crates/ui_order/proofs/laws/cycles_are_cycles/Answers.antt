use Rattle.ui_order.specs.OrderLaws.{computes_cycles}
use Rattle.ui_order.proofs.laws.cycles_are_cycles.Goals as goal

pub returns : goal.returns
returns c = computes_cycles
