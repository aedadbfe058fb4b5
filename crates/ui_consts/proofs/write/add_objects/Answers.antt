use Rattle.std.proofs.Common.{arith}
use Rattle.ui_consts.proofs.WriteLemmas.{object_fits, object_place, object_turn, objects_added}
use Rattle.ui_consts.proofs.write.add_objects.Goals as goal

pub add_element-requires-clause-fits : goal.add_element-requires-clause-fits
add_element-requires-clause-fits c = (c.requires.fits.0, object_fits c.requires.fits.0 c.args.entries.now c.loop-entry.entry-index _ _ c.requires.fits.1 c.loop-entry-test.true c.object_element.ensures)

pub add_element-requires-clause-place : goal.add_element-requires-clause-place
add_element-requires-clause-place c = object_place c.args.entries.now c.loop-entry.entry-index _ _ c.args.out.now c.loop-entry.out c.loop-entry-test.true c.requires.few c.object_element.ensures c.requires.room c.loop-entry.invariant

pub loop-entry-preserved : goal.loop-entry-preserved
loop-entry-preserved c = object_turn c.args.entries.now c.loop-entry.entry-index _ _ c.args.out.now c.loop-entry.out _ c.requires.room.ten c.loop-entry-test.true c.object_element.ensures c.loop-entry.invariant c.in_ok-add_element.ensures

pub returns : goal.returns
returns c = objects_added c.args.entries.now c.loop-entry.entry-index _ _ (omega arith) c.requires.few c.loop-entry.invariant
