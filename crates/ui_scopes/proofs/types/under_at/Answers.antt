use Rattle.ui_scopes.specs.Steps.{under_at}
use Rattle.ui_scopes.proofs.types.under_at.Goals as goal

pub returns-in-Err-clause-answer : goal.returns-in-Err-clause-answer
unfolding under_at
returns-in-Err-clause-answer g c = c.type_refusal.ensures _ c.in-Err.ensures.made
