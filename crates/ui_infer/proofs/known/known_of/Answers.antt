use Rattle.ui_infer.proofs.KnownLemmas.{known_over}
use Rattle.ui_infer.proofs.known.known_of.Goals as goal

pub returns-clause-value : goal.returns-clause-value
returns-clause-value c = λ k h. known_over c.args.table.now c.args.entries.now
    c.loop-entry.entry-index k _ c.loop-entry-test.false (c.loop-entry.invariant.value k h)
