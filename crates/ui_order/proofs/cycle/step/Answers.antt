use Rattle.std.specs.Prelude.{◌≡◌, ◌<◌, ◌+◌, true, nat_eq, length, get_or, set}
use Rattle.std.proofs.Common.{◌∙◌, ap, sym, subst, arith, rules, refl}
use Rattle.std.specs.Vec.{with_item}
use Rattle.ui_order.specs.Steps.{has}
use Rattle.ui_order.specs.Numbers.{linked}
use Rattle.ui_order.specs.Components.{IsFollowed}
use Rattle.ui_order.proofs.NumberLemmas.{has-get_or}
use Rattle.ui_order.proofs.StepLemmas.{at_fits, number_fits, number_read, slice_read, called_walk, stepped_on}
use Rattle.ui_order.proofs.cycle.step.Goals as goal

pub index-k-requires : goal.index-k-requires
index-k-requires c = let l = at_fits c.args.links.now c.args.walk.now c.args.at c.requires.walked in omega arith

pub index-i-requires : goal.index-i-requires
index-i-requires c =
    let k : c.index-k.result.now ≡ get_or c.args.walk.now.path.items c.args.at 0 = number_read c.args.walk.now.path.items c.args.at c.args.at c.index-k.result.now refl (at_fits c.args.links.now c.args.walk.now c.args.at c.requires.walked) c.index-k.ensures in
    let low = number_fits c.args.links.now c.args.walk.now c.args.at c.requires.walked in
    let size = c.requires.walked.looked_size in
    omega arith

pub offset_bounds-links-k : goal.offset_bounds-links-k
offset_bounds-links-k c =
    let k : c.index-k.result.now ≡ get_or c.args.walk.now.path.items c.args.at 0 = number_read c.args.walk.now.path.items c.args.at c.args.at c.index-k.result.now refl (at_fits c.args.links.now c.args.walk.now c.args.at c.requires.walked) c.index-k.ensures in
    let low : c.index-k.result.now < length c.args.links.now = let n = number_fits c.args.links.now c.args.walk.now c.args.at c.requires.walked in omega arith in
    search rules

pub bounds-links-k : goal.bounds-links-k
bounds-links-k c =
    let k : c.index-k.result.now ≡ get_or c.args.walk.now.path.items c.args.at 0 = number_read c.args.walk.now.path.items c.args.at c.args.at c.index-k.result.now refl (at_fits c.args.links.now c.args.walk.now c.args.at c.requires.walked) c.index-k.ensures in
    let low = number_fits c.args.links.now c.args.walk.now c.args.at c.requires.walked in
    omega arith

pub follow-requires-clause-link : goal.follow-requires-clause-link
follow-requires-clause-link c =
    let links = c.args.links.now in
    let walk = c.args.walk.now in
    let at = c.args.at in
    let s = c.requires.walked in
    let u = get_or walk.path.items at 0 in
    let k : c.index-k.result.now ≡ u = number_read walk.path.items at at c.index-k.result.now refl (at_fits links walk at s) c.index-k.ensures in
    let low = number_fits links walk at s in
    let size = s.looked_size in
    let i : c.index-i.result.now ≡ get_or walk.looked.items u 0 = number_read walk.looked.items c.index-k.result.now u c.index-i.result.now k (omega arith) c.index-i.ensures in
    let own : linked links u ≡ c.as_slice-own.result.now = slice_read links c.index-k.result.now u c.index-links-k.result c.as_slice-own.result.now k low c.index-links-k.is c.as_slice-own.ensures.value in
    let link = get_or c.as_slice-own.result.now c.index-i.result.now 0 in
    let linked_to : has nat_eq (linked links u) link ≡ true = subst (λ xs. has nat_eq xs link ≡ true) (sym own) (has-get_or c.as_slice-own.result.now c.index-i.result.now 0 c.if-i-own.true) in
    let fits = c.requires.links u link linked_to in
    let count = s.places_size in
    omega arith

pub index_mut-requires : goal.index_mut-requires
index_mut-requires c =
    let links = c.args.links.now in
    let walk = c.args.walk.now in
    let at = c.args.at in
    let s = c.requires.walked in
    let u = get_or walk.path.items at 0 in
    let k : c.index-k.result.now ≡ u = number_read walk.path.items at at c.index-k.result.now refl (at_fits links walk at s) c.index-k.ensures in
    let low = number_fits links walk at s in
    let size = s.looked_size in
    let i : c.index-i.result.now ≡ get_or walk.looked.items u 0 = number_read walk.looked.items c.index-k.result.now u c.index-i.result.now k (omega arith) c.index-i.ensures in
    let own : linked links u ≡ c.as_slice-own.result.now = slice_read links c.index-k.result.now u c.index-links-k.result c.as_slice-own.result.now k low c.index-links-k.is c.as_slice-own.ensures.value in
    let link = get_or c.as_slice-own.result.now c.index-i.result.now 0 in
    let linked_to : has nat_eq (linked links u) link ≡ true = subst (λ xs. has nat_eq xs link ≡ true) (sym own) (has-get_or c.as_slice-own.result.now c.index-i.result.now 0 c.if-i-own.true) in
    let called = record walk { calls = c.push.new.self } in
    let f : IsFollowed links at link called c.follow.new.walk = c.in_ok-follow.ensures links walk.calls.items at (called_walk links walk at s called refl refl refl refl c.in_ok-push.ensures.items) c.in_ok-push.ensures.items linked_to in
    let same : length c.follow.new.walk.looked.items ≡ length walk.looked.items = ap (λ v. length v.items) f.looked in
    omega arith

pub leave-requires-clause-ended : goal.leave-requires-clause-ended
leave-requires-clause-ended c =
    let links = c.args.links.now in
    let walk = c.args.walk.now in
    let at = c.args.at in
    let s = c.requires.walked in
    let u = get_or walk.path.items at 0 in
    let k : c.index-k.result.now ≡ u = number_read walk.path.items at at c.index-k.result.now refl (at_fits links walk at s) c.index-k.ensures in
    let low = number_fits links walk at s in
    let size = s.looked_size in
    let i : c.index-i.result.now ≡ get_or walk.looked.items u 0 = number_read walk.looked.items c.index-k.result.now u c.index-i.result.now k (omega arith) c.index-i.ensures in
    let own : linked links u ≡ c.as_slice-own.result.now = slice_read links c.index-k.result.now u c.index-links-k.result c.as_slice-own.result.now k low c.index-links-k.is c.as_slice-own.ensures.value in
    let within = s.within u in
    let count : length (linked links u) ≡ length c.as_slice-own.result.now = ap length own in
    omega arith

pub returns-in_ok-follow : goal.returns-in_ok-follow
returns-in_ok-follow c =
    let links = c.args.links.now in
    let walk = c.args.walk.now in
    let at = c.args.at in
    let s = c.requires.walked in
    let u = get_or walk.path.items at 0 in
    let k : c.index-k.result.now ≡ u = number_read walk.path.items at at c.index-k.result.now refl (at_fits links walk at s) c.index-k.ensures in
    let low = number_fits links walk at s in
    let size = s.looked_size in
    let i : c.index-i.result.now ≡ get_or walk.looked.items u 0 = number_read walk.looked.items c.index-k.result.now u c.index-i.result.now k (omega arith) c.index-i.ensures in
    let own : linked links u ≡ c.as_slice-own.result.now = slice_read links c.index-k.result.now u c.index-links-k.result c.as_slice-own.result.now k low c.index-links-k.is c.as_slice-own.ensures.value in
    let link = get_or c.as_slice-own.result.now c.index-i.result.now 0 in
    let linked_to : has nat_eq (linked links u) link ≡ true = subst (λ xs. has nat_eq xs link ≡ true) (sym own) (has-get_or c.as_slice-own.result.now c.index-i.result.now 0 c.if-i-own.true) in
    let called = record walk { calls = c.push.new.self } in
    let f : IsFollowed links at link called c.follow.new.walk = c.in_ok-follow.ensures links walk.calls.items at (called_walk links walk at s called refl refl refl refl c.in_ok-push.ensures.items) c.in_ok-push.ensures.items linked_to in
    let count : length (linked links u) ≡ length c.as_slice-own.result.now = ap length own in
    let is : get_or (linked links u) (get_or walk.looked.items u 0) 0 ≡ link = ap (λ xs. get_or xs (get_or walk.looked.items u 0) 0) own ∙ ap (λ n. get_or c.as_slice-own.result.now n 0) (sym i) in
    let looked : set c.follow.new.walk.looked.items c.index-k.result.now (c.index-i.result.now + 1) ≡ set walk.looked.items u (get_or walk.looked.items u 0 + 1) =
    (λ t. set (f.looked t).items (k t) (i t + 1)) in
    stepped_on links walk at s called c.follow.new.walk (record c.follow.new.walk { looked = with_item c.follow.new.walk.looked c.index-k.result.now (c.index-i.result.now + 1) }) link refl refl refl c.in_ok-push.ensures.items f (omega arith) is refl refl refl refl looked
