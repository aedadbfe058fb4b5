use Rattle.std.proofs.Common.{get_or, arith}
use Rattle.ui_types.specs.declared.id.TypeId.{TypeId}
use Rattle.ui_types.specs.Entries.{trees_of}
use Rattle.ui_types.specs.Trees.{parts-take, sizes-snoc, depths-snoc}
use Rattle.ui_types.proofs.TableLemmas.{entry_at}
use Rattle.ui_types.proofs.entries.parts_extent.Goals as goal

pub loop-id-preserved : goal.loop-id-preserved
loop-id-preserved c =
    let es = c.args.entries.now.entries in
    let t : TypeId = get_or c.args.ids.now c.loop-id.id-index (record { 0 = 0 }) in
    let here = entry_at es t _ c.requires.table c.entry_of.ensures in
    let i = c.loop-id.invariant in
    let more = parts-take (trees_of es) c.args.ids.now c.loop-id.id-index (record { 0 = 0 }) c.loop-id-test.true in
    record {
      size_so_far = rw (more, sizes-snoc) (omega (arith, here.size_is, i.size_so_far));
      depth_so_far = rw (more, depths-snoc) (omega (arith, here.depth_is, i.depth_so_far));
    }
