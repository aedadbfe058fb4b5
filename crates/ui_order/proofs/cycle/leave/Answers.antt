use Rattle.std.specs.Prelude.{◌≡◌, ◌<◌, ◌-◌, ◌++◌, ◌∷◌, [], nat_eq, length, get_or, take}
use Rattle.std.proofs.Common.{◌∙◌, ap, sym, subst, arith, rules, refl}
use Rattle.std.specs.List.{list_any}
use Rattle.std.proofs.lemmas.Bool.Decides.{nat_tests}
use Rattle.ui_order.specs.Numbers.{linked}
use Rattle.ui_order.specs.Components.{IsClosed}
use Rattle.ui_order.proofs.NumberLemmas.{get_or-any, linked-is}
use Rattle.ui_order.proofs.RisingLemmas.{last_split}
use Rattle.ui_order.proofs.StepLemmas.{at_fits, number_fits, has_turned, Tells, told_many, told_alone, stepped_closed, stepped_back}
use Rattle.ui_order.proofs.cycle.leave.Goals as goal
use Rattle.ui_order.proofs.cycle.leave.Goals.{then-at-len, else-at-len}

pub index-requires : goal.index-requires
index-requires c = let l = at_fits c.args.links.now c.args.walk.now c.args.at c.requires.walked in omega arith

pub overflow_add-at : goal.overflow_add-at
overflow_add-at c = let l = at_fits c.args.links.now c.args.walk.now c.args.at c.requires.walked in search rules

pub offset_bounds-links-k : goal.offset_bounds-links-k
offset_bounds-links-k c =
    let l = at_fits c.args.links.now c.args.walk.now c.args.at c.requires.walked in
    let is : c.index.result.now ≡ get_or c.args.walk.now.path.items c.args.at 0 = c.index.ensures ∙ get_or-any c.args.walk.now.path.items c.args.at c.index.result.now 0 l in
    let low : c.index.result.now < length c.args.links.now = let n = number_fits c.args.links.now c.args.walk.now c.args.at c.requires.walked in omega arith in
    search rules

pub bounds-links-k : goal.bounds-links-k
bounds-links-k c =
    let l = at_fits c.args.links.now c.args.walk.now c.args.at c.requires.walked in
    let is : c.index.result.now ≡ get_or c.args.walk.now.path.items c.args.at 0 = c.index.ensures ∙ get_or-any c.args.walk.now.path.items c.args.at c.index.result.now 0 l in
    let n = number_fits c.args.links.now c.args.walk.now c.args.at c.requires.walked in
    omega arith

pub close-requires-clause-from : goal.close-requires-clause-from
close-requires-clause-from c = let l = at_fits c.args.links.now c.args.walk.now c.args.at c.requires.walked in omega arith

pub returns-then-not-is_last : goal.returns-then-not-is_last
returns-then-not-is_last c =
    stepped_back c.args.links.now c.args.walk.now c.args.at c.requires.walked
    (subst (λ xs. 0 < length xs → get_or xs (length xs - 1) 0 ≡ c.args.at → ⊥) c.as_slice.ensures.value (c.is_last.ensures.no c.if-not-is_last.true)) c.requires.ended

pub returns : goal.returns
returns c =
    let links = c.args.links.now in
    let walk = c.args.walk.now in
    let at = c.args.at in
    let s = c.requires.walked in
    let u = get_or walk.path.items at 0 in
    let fits = at_fits links walk at s in
    let low = number_fits links walk at s in
    let old = walk.bounds.items in
    let bounds = take (length old - 1) old in
    let found = c.is_last.ensures.yes c.if-not-is_last.false in
    let more : 0 < length old = subst (λ xs. 0 < length xs) c.as_slice.ensures.value found.0 in
    let is : get_or old (length old - 1) 0 ≡ at = subst (λ xs. get_or xs (length xs - 1) 0 ≡ at) c.as_slice.ensures.value found.1 in
    let last : old ≡ bounds ++ at ∷ [] = last_split old more ∙ ap (λ b. bounds ++ b ∷ []) is in
    let k : c.index.result.now ≡ u = c.index.ensures ∙ get_or-any walk.path.items at c.index.result.now 0 fits in
    let tells : Tells links walk at s bounds last c.requires.ended c.if-at-len.is_on_cycle = elim c.if-at-len.branch [
      | then-at-len w ↦ told_many links walk at s bounds last c.requires.ended c.if-at-len.is_on_cycle (w.is_on_cycle-is ∙ grind (arith, nat_tests)) (omega arith)
      | else-at-len w ↦ told_alone links walk at s bounds last c.requires.ended c.if-at-len.is_on_cycle (omega arith)
          (let same : w.index-links-k.result.items ≡ linked links u = sym (linked-is links c.index.result.now w.index-links-k.result (omega arith) w.index-links-k.is) ∙ ap (linked links) k in
          let own : w.deref.result.now ≡ linked links u = w.deref.ensures.value ∙ same in
          sym (has_turned (linked links u) u) ∙ sym (ap (λ xs. list_any (λ y. nat_eq y u) xs) own) ∙ sym (ap (λ q. list_any (λ y. nat_eq y q) w.deref.result.now) k) ∙ sym w.contains-is_on_cycle.ensures.value ∙ sym w.is_on_cycle-is)
    ] in
    stepped_closed links walk at s bounds last c.requires.ended (record walk { places = c.close.new.places; path = c.close.new.path; bounds = c.pop.new.self }) c.if-at-len.is_on_cycle
    (subst (λ n. IsClosed at n c.if-at-len.is_on_cycle walk.places.items c.close.new.places.items) (omega arith) c.close.ensures.closed) tells c.close.ensures.path
    (c.pop.ensures.rest ∙ ap (λ n. take n old) (omega arith)) refl refl
