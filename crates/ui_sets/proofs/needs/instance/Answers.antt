use Rattle.ui_sets.proofs.needs.instance.Goals as goal

pub returns-in-Err-clause-answer : goal.returns-in-Err-clause-answer
returns-in-Err-clause-answer c = c.limit.ensures _ c.in-Err.ensures.made
