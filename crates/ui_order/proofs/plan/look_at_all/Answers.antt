use Rattle.std.specs.Prelude.{[], length, ◌+◌, ◌-◌}
use Rattle.std.proofs.Common.{subst}
use Rattle.std.specs.List.{range_with_len}
use Rattle.ui_order.specs.Numbers.{IsPlan}
use Rattle.ui_order.proofs.NumberLemmas.{range-step}
use Rattle.ui_order.proofs.plan.look_at_all.Goals as goal

pub loop-k-preserved : goal.loop-k-preserved
loop-k-preserved c =
    let links = c.args.links.now in
    let k = c.loop-k.k in
    record {
      sized = c.in_ok-wait.ensures.sized;
      planned = c.in_ok-wait.ensures.looked_at [] (range_with_len (k + 1) (length links - (k + 1)))
          (subst (λ ks. IsPlan links [] ks c.loop-k.plan) (range-step k (length links) c.loop-k-test.true) c.loop-k.invariant.planned);
    }
