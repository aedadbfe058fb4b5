use Rattle.std.specs.Prelude.{◌≡◌, ◌<◌, [], ◌∷◌, ◌++◌, nat_eq, true, length, set, refl}
use Rattle.std.proofs.Common.{◌∙◌, ap, sym, subst, arith}
use Rattle.std.proofs.lemmas.Bool.{false≢true}
use Rattle.ui_order.specs.Steps.{has}
use Rattle.ui_order.specs.Numbers.{linked, ArePlanned}
use Rattle.ui_order.proofs.NumberLemmas.{no_keys, linked-is}
use Rattle.ui_order.proofs.PlanLemmas.{nothing_next, least_next, taken_sized, taken_planned}
use Rattle.ui_order.proofs.plan.take_least.Goals as goal

pub returns-in-None : goal.returns-in-None
returns-in-None c = λ links order s o plan. (
  nothing_next links order c.args.plan.now.taken.items c.args.plan.now.at.items c.args.plan.now.waiting.items c.args.plan.now.ready s plan
      (no_keys c.args.plan.now.ready.keys (λ h. false≢true (c.in-None.ensures.variant.1 h))),
  refl,
)

pub returns : goal.returns
returns c = λ links order s o plan.
    let p = c.args.plan.now in
    let i = c.in-Some.i in
    let inside = c.in-Some.ensures.member in
    let low : i < length p.waiting.items = let a = s.small_ready i inside in let b = s.waiting_size in omega arith in
    let woken : linked p.waiting.items i ≡ c.replace-woken.result.items =
    linked-is p.waiting.items i c.index_mut-2.result.now low c.index_mut-2.ensures.value ∙ ap (λ v. v.items) (sym c.replace-woken.ensures.value) in
    let empty : c.replace-woken.new.dest.items ≡ [] = ap (λ v. v.items) c.replace-woken.ensures.after ∙ c.new.ensures.items in
    record {
      next = least_next links order p.taken.items p.at.items p.waiting.items p.ready s plan i inside c.in-Some.ensures.least;
      small_woken = λ k h. s.small_waiting i k (subst (λ xs. has nat_eq xs k ≡ true) (sym woken) h);
      sized = taken_sized links order p.taken.items p.at.items p.waiting.items p.ready s plan i inside c.replace-woken.new.dest c.pop_first.new.self empty c.in-Some.ensures.updates.0;
      planned = subst (λ xs. ArePlanned links (order ++ i ∷ []) xs (set p.taken.items i true) p.at.items (set p.waiting.items i c.replace-woken.new.dest) c.pop_first.new.self) woken
          (taken_planned links order p.taken.items p.at.items p.waiting.items p.ready s plan i inside c.replace-woken.new.dest c.pop_first.new.self empty c.in-Some.ensures.updates.0 o);
    }
