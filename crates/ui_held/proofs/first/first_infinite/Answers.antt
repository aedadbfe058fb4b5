use Rattle.std.proofs.Common.{◌≡◌, ◌+◌, length, sym, subst, arith}
use Rattle.std.proofs.lemmas.Result.{IfOk-weaker}
use Rattle.ui_types.specs.declared.id.TypeId.{TypeId}
use Rattle.ui_types.specs.Table.{trees}
use Rattle.ui_order.specs.Numbers.{Links, AreLinked, IsFirstOnCycle}
use Rattle.ui_held.specs.Held.{IsFirstInfinite}
use Rattle.ui_held.proofs.Graph.{AreHeld, linked_more, held_linked, first_infinite_is}
use Rattle.ui_held.proofs.first.first_infinite.Goals as goal

pub loop-under-preserved : goal.loop-under-preserved
loop-under-preserved c =
    let d : TypeId = record { 0 = 0 } in
    let names = c.args.names.now.keys in
    let unders = trees c.args.table.now c.args.unders.now in
    record {
      so_far = subst (λ (vs : Links). AreHeld names unders (c.loop-under.under-index + 1) vs)
          (sym c.in_ok-push.ensures.items)
          (linked_more c.args.table.now names c.args.unders.now c.loop-under.under-index d
          c.loop-under.links.items c.in_ok-held_places.field-0 c.loop-under-test.true
          c.loop-under.invariant.so_far c.in_ok-held_places.ensures);
    }

pub first_on_cycle-requires : goal.first_on_cycle-requires
first_on_cycle-requires c =
    let names = c.args.names.now.keys in
    let unders = trees c.args.table.now c.args.unders.now in
    let end : c.loop-under.under-index ≡ length names
    = omega (arith, c.requires.each, c.loop-under-test.false, c.loop-under.auto.under-index-end) in
    let a : AreHeld names unders (length names) c.loop-under.links.items
    = subst (λ n. AreHeld names unders n c.loop-under.links.items) end
    c.loop-under.invariant.so_far in
    subst AreLinked (sym c.deref.ensures.value) (held_linked names unders c.loop-under.links.items a)

pub returns : goal.returns
returns c =
    let names = c.args.names.now.keys in
    let unders = trees c.args.table.now c.args.unders.now in
    let end : c.loop-under.under-index ≡ length names
    = omega (arith, c.requires.each, c.loop-under-test.false, c.loop-under.auto.under-index-end) in
    let a : AreHeld names unders (length names) c.loop-under.links.items
    = subst (λ n. AreHeld names unders n c.loop-under.links.items) end
    c.loop-under.invariant.so_far in
    IfOk-weaker c.first_on_cycle.result (IsFirstOnCycle c.deref.result.now)
    (IsFirstInfinite names unders)
    (λ r f. first_infinite_is names unders c.loop-under.links.items a r
    (subst (λ vs. IsFirstOnCycle vs r) c.deref.ensures.value f)) c.first_on_cycle.ensures
