use Rattle.std.proofs.Common.{◌∙◌, ap, arith}
use Rattle.ui_order.specs.Numbers.{linked}
use Rattle.ui_order.proofs.NumberLemmas.{linked-push}
use Rattle.ui_order.proofs.plan.empty_lists.Goals as goal

pub loop-preserved : goal.loop-preserved
loop-preserved c = record {
  size = let n = c.loop.invariant.size in omega (arith, c.in_ok-push.ensures.len);
  empty = λ j. ap (λ xs. linked xs j) c.in_ok-push.ensures.items ∙ linked-push c.loop.lists.items c.new.result c.loop.invariant.empty c.new.ensures.items j;
}
