use Rattle.std.proofs.Common.{take, arith}
use Rattle.ui_sources.proofs.PlaceLemmas.{at_start, one_more, line_grows, col_grows}
use Rattle.ui_sources.proofs.fault.spot_at.Goals as goal

pub loop-byte-init : goal.loop-byte-init
loop-byte-init c = record { so_far = at_start; line = omega arith; col = omega arith }

pub loop-byte-preserved : goal.loop-byte-preserved
loop-byte-preserved c =
    let s = c.loop-byte.spot in
    let t = c.past-spot.result in
    let i = c.loop-byte.byte-index in
    record {
      so_far = one_more (take c.min.result c.args.bytes.now) i s t c.loop-byte-test.true c.loop-byte.invariant.so_far c.past-spot.ensures;
      line = line_grows s t _ i c.past-spot.ensures c.loop-byte.invariant.line;
      col = col_grows s t _ i c.past-spot.ensures c.loop-byte.invariant.col;
    }
