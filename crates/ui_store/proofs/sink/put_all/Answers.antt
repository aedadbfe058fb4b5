use Rattle.std.proofs.Common.{arith}
use Rattle.std.proofs.lemmas.List.{take_rest}
use Rattle.ui_store.specs.Told.{grown_by_piece}
use Rattle.ui_store.proofs.sink.put_all.Goals as goal

pub loop-done-preserved : goal.loop-done-preserved
loop-done-preserved g c = record {
  within = grind arith;
  bytes = grown_by_piece _ _ _ c.args.bytes.now c.loop-done.done c.in_ok-count.count c.loop-done.invariant.bytes (rw take_rest at c.in_ok-count.ensures.bytes);
  count = omega (arith, c.in_ok-count.ensures.cause.later);
}
