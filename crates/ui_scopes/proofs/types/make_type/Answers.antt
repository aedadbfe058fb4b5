use Rattle.ui_scopes.proofs.types.make_type.Goals as goal

pub returns-in-Err-clause-answer : goal.returns-in-Err-clause-answer
returns-in-Err-clause-answer c = c.type_refusal.ensures _ c.in-Err.ensures.made
