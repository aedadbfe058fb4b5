use Rattle.ui_type_rules.proofs.Extents.{past_here, one_done, told_past, told_is, told_within}
use Rattle.ui_type_rules.proofs.limit_rule.first_past.Goals as goal

pub returns-in-None : goal.returns-in-None
returns-in-None c =
    past_here c.args.types.now c.loop-k.done.items c.loop-k.k c.index-types-k.result
    c.loop-k-test.true c.index-types-k.is c.loop-k.invariant
    (told_past c.deref.result.now c.loop-k.done.items c.index-types-k.result
    c.deref.ensures.value c.in_ok-extent.field-0 c.in_ok-extent.ensures c.in-None.is)

pub loop-k-preserved : goal.loop-k-preserved
loop-k-preserved c =
    one_done c.args.types.now c.loop-k.done.items c.push.new.self.items c.loop-k.k
    c.index-types-k.result c.in-Some.extent c.loop-k-test.true c.index-types-k.is
    c.loop-k.invariant
    (told_is c.deref.result.now c.loop-k.done.items c.index-types-k.result
    c.deref.ensures.value c.in_ok-extent.field-0 c.in-Some.extent c.in_ok-extent.ensures
    c.in-Some.is)
    (told_within c.deref.result.now c.loop-k.done.items c.index-types-k.result
    c.deref.ensures.value c.in_ok-extent.field-0 c.in-Some.extent c.in_ok-extent.ensures
    c.in-Some.is)
    c.in_ok-push-in-Some.ensures.items
