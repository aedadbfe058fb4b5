use Rattle.std.proofs.Common.{refl, arith}
use Rattle.ui_eobj.proofs.Magnitudes.{at_end, too_great, turn}
use Rattle.ui_eobj.proofs.magnitude.magnitude_number.Goals as goal

pub returns-then-number : goal.returns-then-number
returns-then-number c = too_great c.loop-byte.number c.loop-byte.byte-index c.args.bytes.now _ (omega arith) c.loop-byte-test.true c.loop-byte.invariant

pub loop-byte-preserved : goal.loop-byte-preserved
loop-byte-preserved c = turn c.loop-byte.number c.loop-byte.byte-index c.args.bytes.now _ _ c.loop-byte-test.true refl c.loop-byte.invariant

pub returns : goal.returns
returns c = at_end c.loop-byte.number c.loop-byte.byte-index c.args.bytes.now _ (omega arith) c.loop-byte.invariant
