use Rattle.std.proofs.Common.{arith}
use Rattle.ui_consts.proofs.WriteLemmas.{name_fits, names_added}
use Rattle.ui_consts.proofs.write.add_names.Goals as goal

pub add_element-requires-clause-fits : goal.add_element-requires-clause-fits
add_element-requires-clause-fits c = (c.requires.fits.0, name_fits c.requires.fits.0 c.args.entries.now c.loop-entry.entry-index _ _ c.requires.fits.1 c.loop-entry-test.true c.name_element.ensures)

pub returns : goal.returns
returns c = names_added c.args.entries.now c.loop-entry.entry-index _ _ (omega arith) c.requires.few c.loop-entry.invariant
