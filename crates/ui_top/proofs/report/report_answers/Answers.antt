use Rattle.ui_top.proofs.Saying.{says_nothing}
use Rattle.ui_top.proofs.report.report_answers.Goals as goal

pub returns-in-Ok-true-clause-said : goal.returns-in-Ok-true-clause-said
returns-in-Ok-true-clause-said g c = rw c.in-Ok-true.is (says_nothing (g.E.Sink.told c.args.err.now))

pub returns-in-Ok-false-clause-said : goal.returns-in-Ok-false-clause-said
returns-in-Ok-false-clause-said g c = rw c.in-Ok-false.is (says_nothing (g.E.Sink.told c.args.err.now))
