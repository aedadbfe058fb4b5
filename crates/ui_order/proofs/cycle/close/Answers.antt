use Rattle.std.specs.Prelude.{◌≡◌, ◌<◌, ◌+◌, set, get_or, length}
use Rattle.std.proofs.Common.{◌∙◌, sym, subst, arith}
use Rattle.ui_order.specs.declared.cycle.Place.TheVariants.{Done}
use Rattle.ui_order.specs.Components.{IsClosed}
use Rattle.ui_order.proofs.NumberLemmas.{get_or-any}
use Rattle.ui_order.proofs.WalkLemmas.{path_low}
use Rattle.ui_order.proofs.CloseLemmas.{closed_none, closed_more}
use Rattle.ui_order.proofs.cycle.close.Goals as goal

pub loop-i-init : goal.loop-i-init
loop-i-init c = record { from = omega arith; closed = closed_none c.args.places.now.items c.args.path.now.items c.requires.placed c.args.from c.args.is_on_cycle }

pub index_mut-requires : goal.index_mut-requires
index_mut-requires c =
    let low : c.loop-i.i < length c.args.path.now.items = omega arith in
    let is : c.index.result.now ≡ get_or c.args.path.now.items c.loop-i.i 0 = c.index.ensures ∙ get_or-any c.args.path.now.items c.loop-i.i c.index.result.now 0 low in
    let fits = path_low c.args.places.now.items (get_or c.args.path.now.items c.loop-i.i 0) c.loop-i.i (c.requires.placed.on_path c.loop-i.i low) in
    let size = c.loop-i.invariant.closed.size in
    omega arith

pub loop-i-preserved : goal.loop-i-preserved
loop-i-preserved c =
    let low : c.loop-i.i < length c.args.path.now.items = omega arith in
    let is : c.index.result.now ≡ get_or c.args.path.now.items c.loop-i.i 0 = c.index.ensures ∙ get_or-any c.args.path.now.items c.loop-i.i c.index.result.now 0 low in
    record {
      from = omega arith;
      closed = subst (λ u. IsClosed c.args.from (c.loop-i.i + 1) c.args.is_on_cycle c.args.places.now.items (set c.loop-i.places.items u (Done c.args.is_on_cycle))) (sym is)
          (closed_more c.args.places.now.items c.args.path.now.items c.requires.placed c.args.from c.args.is_on_cycle c.loop-i.i c.loop-i.places.items (omega arith) low c.loop-i.invariant.closed);
    }

pub returns-clause-closed : goal.returns-clause-closed
returns-clause-closed c = subst (λ n. IsClosed c.args.from n c.args.is_on_cycle c.args.places.now.items c.loop-i.places.items) (omega arith) c.loop-i.invariant.closed
