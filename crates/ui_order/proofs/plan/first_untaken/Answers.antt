use Rattle.ui_order.proofs.NumberLemmas.{has-get_or}
use Rattle.ui_order.proofs.plan.first_untaken.Goals as goal

pub bounds-taken-links : goal.bounds-taken-links
bounds-taken-links c = c.requires.links _ (has-get_or c.args.links.now c.loop-i.i 0 c.loop-i-test.true)
