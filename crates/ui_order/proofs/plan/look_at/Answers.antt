use Rattle.ui_order.proofs.NumberLemmas.{has-get_or}
use Rattle.ui_order.proofs.plan.look_at.Goals as goal

pub wait-requires-clause-number : goal.wait-requires-clause-number
wait-requires-clause-number c = c.requires.numbers _ (has-get_or c.args.numbers.now c.loop-k.k-index 0 c.loop-k-test.true)
