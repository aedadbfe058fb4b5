use Rattle.std.specs.Prelude.{[], ◌<◌}
use Rattle.std.proofs.Common.{sym, subst}
use Rattle.ui_order.specs.Numbers.{IsPlan, IsNumberOrder, Builds, untaken}
use Rattle.ui_order.proofs.BuildLemmas.{turn_smaller, ordered_more, builds_first, builds_more, builds_whole}
use Rattle.ui_order.proofs.plan.in_order.Goals as goal

pub loop-i-init : goal.loop-i-init
loop-i-init c =
    let links = c.args.links.now in
    let start = sym c.new-order.ensures.items in
    record {
      sized = c.in_ok-look_at_all.ensures.sized;
      planned = subst (λ xs. IsPlan links xs [] c.look_at_all.new.plan) start c.in_ok-look_at_all.ensures.planned;
      ordered = subst (λ xs. IsNumberOrder links xs) start tt;
      builds = subst (λ xs. Builds links xs) start (builds_first links);
    }

pub loop-i-smaller : goal.loop-i-smaller
loop-i-smaller c =
    let links = c.args.links.now in
    let old = c.loop-i.order.items in
    let at = c.loop-i.invariant in
    let turn = c.in-Some.ensures links old at.sized at.ordered at.planned in
    subst (λ xs. untaken links xs < untaken links old) (sym c.in_ok-push.ensures.items) (turn_smaller links old c.in-Some.i turn.next)

pub loop-i-preserved : goal.loop-i-preserved
loop-i-preserved c =
    let links = c.args.links.now in
    let old = c.loop-i.order.items in
    let at = c.loop-i.invariant in
    let turn = c.in-Some.ensures links old at.sized at.ordered at.planned in
    let pushed = sym c.in_ok-push.ensures.items in
    record {
      sized = c.in_ok-look_at.ensures.sized;
      planned = c.in_ok-look_at.ensures.planned c.push.new.self.items
          (subst (λ ks. IsPlan links c.push.new.self.items ks c.take_least.new.plan) (sym c.as_slice.ensures.value) (subst (λ xs. IsPlan links xs c.in-Some.woken.items c.take_least.new.plan) pushed turn.planned));
      ordered = subst (λ xs. IsNumberOrder links xs) pushed (ordered_more links old c.in-Some.i at.ordered turn.next);
      builds = subst (λ xs. Builds links xs) pushed (builds_more links old c.in-Some.i turn.next at.builds);
    }

pub returns : goal.returns
returns c =
    let at = c.loop-i.invariant in
    let e = c.in_default.ensures c.args.links.now c.loop-i.order.items at.sized at.ordered at.planned in
    builds_whole c.args.links.now c.loop-i.order.items e.0 at.builds
