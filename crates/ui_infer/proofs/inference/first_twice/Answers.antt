use Rattle.std.specs.Prelude.{None}
use Rattle.ui_infer.specs.declared.known.Known.{Known}
use Rattle.ui_infer.proofs.SolutionLemmas.{first_twice_at, none_here, none_there}
use Rattle.ui_infer.proofs.inference.first_twice.Goals as goal

pub loop-k-preserved : goal.loop-k-preserved
loop-k-preserved c = λ table.
    let d : Known = record { first = None; other = None } in
    none_here _ _ _ _ (first_twice_at table c.args.known.now c.loop-k.k d c.loop-k-test.true)
    (c.loop-k.invariant table)
    (none_there c.pair_at.result _ _ (c.pair_at.ensures.value table) c.in_default.not-Some)
