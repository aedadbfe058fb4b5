use Rattle.ui_sets.proofs.needs.needed.Goals as goal

pub returns-in-Err-clause-answer : goal.returns-in-Err-clause-answer
returns-in-Err-clause-answer g c = c.limit.ensures _ c.in-Err.ensures.made
