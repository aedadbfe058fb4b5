use Rattle.std.specs.Prelude.{◌≡◌, ◌<◌, ◌≤◌, false, true, get_or, set, length, ◌∷◌, [], ◌++◌}
use Rattle.std.proofs.Common.{◌∙◌, ap, sym, subst, arith}
use Rattle.std.specs.Prelude.{nat_eq}
use Rattle.ui_order.specs.Steps.{has}
use Rattle.ui_order.specs.Numbers.{linked, AreSized, ArePlanned}
use Rattle.ui_order.proofs.NumberLemmas.{linked-is, has-get_or, get_or-any}
use Rattle.ui_order.proofs.PlanLemmas.{sized_put, sized_ready, plan_put, plan_ready, passed_of}
use Rattle.ui_order.proofs.plan.wait.Goals as goal

pub first_untaken-i-requires-clause-from : goal.first_untaken-i-requires-clause-from
first_untaken-i-requires-clause-from c =
    let own_is : linked c.args.links.now c.args.k ≡ c.as_slice-own.result.now = linked-is c.args.links.now c.args.k c.index-links-k.result c.requires.number c.index-links-k.is ∙ sym c.as_slice-own.ensures.value in
    let low : c.args.k < length c.args.plan.now.at.items = let a = c.requires.sized.at_size in let b = c.requires.number in omega arith in
    let start : get_or c.args.plan.now.at.items c.args.k 0 ≡ c.index.result.now = get_or-any c.args.plan.now.at.items c.args.k 0 c.index.result.now low ∙ sym c.index.ensures in
    let within = c.requires.sized.within c.args.k c.requires.number in
    omega (arith, ap length own_is)

pub first_untaken-i-requires-clause-links : goal.first_untaken-i-requires-clause-links
first_untaken-i-requires-clause-links c = λ j h.
    let own_is : linked c.args.links.now c.args.k ≡ c.as_slice-own.result.now = linked-is c.args.links.now c.args.k c.index-links-k.result c.requires.number c.index-links-k.is ∙ sym c.as_slice-own.ensures.value in
    let low = c.requires.links c.args.k j (subst (λ xs. has nat_eq xs j ≡ true) (sym own_is) h) in
    let size = c.requires.sized.taken_size in
    omega (arith, ap length c.as_slice.ensures.value)

pub index_mut-requires-then-i-own : goal.index_mut-requires-then-i-own
index_mut-requires-then-i-own c =
    let own_is : linked c.args.links.now c.args.k ≡ c.as_slice-own.result.now = linked-is c.args.links.now c.args.k c.index-links-k.result c.requires.number c.index-links-k.is ∙ sym c.as_slice-own.ensures.value in
    let j = get_or c.as_slice-own.result.now c.first_untaken-i.result 0 in
    let low = c.requires.links c.args.k j (subst (λ xs. has nat_eq xs j ≡ true) (sym own_is) (has-get_or c.as_slice-own.result.now c.first_untaken-i.result 0 c.if-i-own.true)) in
    let size = c.requires.sized.waiting_size in
    omega arith

pub returns-in_ok-push-clause-sized : goal.returns-in_ok-push-clause-sized
returns-in_ok-push-clause-sized c =
    let links = c.args.links.now in
    let p = c.args.plan.now in
    let k = c.args.k in
    let i = c.first_untaken-i.result in
    let own_is : linked links k ≡ c.as_slice-own.result.now = linked-is links k c.index-links-k.result c.requires.number c.index-links-k.is ∙ sym c.as_slice-own.ensures.value in
    let j = get_or c.as_slice-own.result.now i 0 in
    let low : j < length p.waiting.items =
    let l = c.requires.links k j (subst (λ xs. has nat_eq xs j ≡ true) (sym own_is) (has-get_or c.as_slice-own.result.now i 0 c.if-i-own.true)) in
    let size = c.requires.sized.waiting_size in omega arith in
    let more : c.push.new.self.items ≡ linked p.waiting.items j ++ k ∷ [] =
    c.in_ok-push.ensures.items ∙ ap (λ xs. xs ++ k ∷ []) (sym (linked-is p.waiting.items j c.index_mut-then-i-own.result.now low c.index_mut-then-i-own.ensures.value)) in
    subst (λ xs. AreSized links p.taken.items (set p.at.items k i) (set p.waiting.items (get_or xs i 0) c.push.new.self) p.ready) own_is
    (sized_put links k i c.requires.number p.taken.items p.at.items p.waiting.items p.ready c.push.new.self c.requires.sized
    (subst (λ xs. i < length xs) (sym own_is) c.if-i-own.true) c.requires.links
    (subst (λ xs. c.push.new.self.items ≡ linked p.waiting.items (get_or xs i 0) ++ k ∷ []) (sym own_is) more))

pub returns-in_ok-push-clause-looked_at : goal.returns-in_ok-push-clause-looked_at
returns-in_ok-push-clause-looked_at c = λ order left plan.
    let links = c.args.links.now in
    let p = c.args.plan.now in
    let k = c.args.k in
    let i = c.first_untaken-i.result in
    let own_is : linked links k ≡ c.as_slice-own.result.now = linked-is links k c.index-links-k.result c.requires.number c.index-links-k.is ∙ sym c.as_slice-own.ensures.value in
    let j = get_or c.as_slice-own.result.now i 0 in
    let low : j < length p.waiting.items =
    let l = c.requires.links k j (subst (λ xs. has nat_eq xs j ≡ true) (sym own_is) (has-get_or c.as_slice-own.result.now i 0 c.if-i-own.true)) in
    let size = c.requires.sized.waiting_size in omega arith in
    let at_low : k < length p.at.items = let a = c.requires.sized.at_size in let b = c.requires.number in omega arith in
    let more : c.push.new.self.items ≡ linked p.waiting.items j ++ k ∷ [] =
    c.in_ok-push.ensures.items ∙ ap (λ xs. xs ++ k ∷ []) (sym (linked-is p.waiting.items j c.index_mut-then-i-own.result.now low c.index_mut-then-i-own.ensures.value)) in
    let found : get_or p.taken.items j false ≡ false = subst (λ ts. get_or ts j false ≡ false) c.as_slice.ensures.value (c.first_untaken-i.ensures.found c.if-i-own.true) in
    subst (λ xs. ArePlanned links order left p.taken.items (set p.at.items k i) (set p.waiting.items (get_or xs i 0) c.push.new.self) p.ready) own_is
    (plan_put links k i c.requires.number p.taken.items p.at.items p.waiting.items p.ready order left c.requires.links c.requires.sized plan
    (passed_of links k i p.at.items p.taken.items c.as_slice.result.now c.as_slice-own.result.now c.index.result.now at_low own_is c.index.ensures c.as_slice.ensures.value c.first_untaken-i.ensures.passed)
    c.push.new.self (subst (λ xs. i < length xs) (sym own_is) c.if-i-own.true)
    (subst (λ xs. get_or p.taken.items (get_or xs i 0) false ≡ false) (sym own_is) found)
    (subst (λ xs. c.push.new.self.items ≡ linked p.waiting.items (get_or xs i 0) ++ k ∷ []) (sym own_is) more))

pub returns-in_ok-insert-clause-sized : goal.returns-in_ok-insert-clause-sized
returns-in_ok-insert-clause-sized c =
    let links = c.args.links.now in
    let p = c.args.plan.now in
    let own_is : linked links c.args.k ≡ c.as_slice-own.result.now = linked-is links c.args.k c.index-links-k.result c.requires.number c.index-links-k.is ∙ sym c.as_slice-own.ensures.value in
    let within : c.first_untaken-i.result ≤ length (linked links c.args.k) = subst (λ xs. c.first_untaken-i.result ≤ length xs) (sym own_is) c.first_untaken-i.ensures.within in
    sized_ready links c.args.k c.first_untaken-i.result c.requires.number p.taken.items p.at.items p.waiting.items p.ready c.insert.new.self c.requires.sized within c.in_ok-insert.ensures.updates.0

pub returns-in_ok-insert-clause-looked_at : goal.returns-in_ok-insert-clause-looked_at
returns-in_ok-insert-clause-looked_at c = λ order left plan.
    let links = c.args.links.now in
    let p = c.args.plan.now in
    let k = c.args.k in
    let i = c.first_untaken-i.result in
    let own_is : linked links k ≡ c.as_slice-own.result.now = linked-is links k c.index-links-k.result c.requires.number c.index-links-k.is ∙ sym c.as_slice-own.ensures.value in
    let at_low : k < length p.at.items = let a = c.requires.sized.at_size in let b = c.requires.number in omega arith in
    let within : i ≤ length (linked links k) = subst (λ xs. i ≤ length xs) (sym own_is) c.first_untaken-i.ensures.within in
    let all : length (linked links k) ≤ i = subst (λ xs. length xs ≤ i) (sym own_is) c.if-i-own.false in
    plan_ready links k i c.requires.number p.taken.items p.at.items p.waiting.items p.ready order left c.requires.links c.requires.sized plan
    (passed_of links k i p.at.items p.taken.items c.as_slice.result.now c.as_slice-own.result.now c.index.result.now at_low own_is c.index.ensures c.as_slice.ensures.value c.first_untaken-i.ensures.passed)
    c.insert.new.self within all c.in_ok-insert.ensures.updates.0
