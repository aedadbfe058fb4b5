use Rattle.std.proofs.Common.{arith}
use Rattle.ui_order.proofs.PlanLemmas.{first_sized, first_planned}
use Rattle.ui_order.proofs.plan.first_plan.Goals as goal

pub returns-clause-sized : goal.returns-clause-sized
returns-clause-sized c = first_sized c.args.links.now c.in_ok-taken.taken.items c.in_ok-at.at.items c.in_ok-waiting.waiting.items c.new.result
    (c.in_ok-taken.ensures.items_if_clones_equal (λ y e. e)) (c.in_ok-at.ensures.items_if_clones_equal (λ y e. e)) (let n = c.in_ok-waiting.ensures.size in omega arith) c.in_ok-waiting.ensures.empty c.new.ensures.empty

pub returns-clause-planned : goal.returns-clause-planned
returns-clause-planned c = first_planned c.args.links.now c.in_ok-taken.taken.items c.in_ok-at.at.items c.in_ok-waiting.waiting.items c.new.result
    (c.in_ok-taken.ensures.items_if_clones_equal (λ y e. e)) (c.in_ok-at.ensures.items_if_clones_equal (λ y e. e)) (let n = c.in_ok-waiting.ensures.size in omega arith) c.in_ok-waiting.ensures.empty c.new.ensures.empty
