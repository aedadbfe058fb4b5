use Rattle.ui_name_rules.proofs.Pairs.{AreOrdered}
use Rattle.ui_name_rules.proofs.in_order.are_in_order.Given as goal

abbrev pub invariant-loop-k : goal.invariant-loop-k
invariant-loop-k g l = AreOrdered (g.R.Order.before l.order) l.items l.k
