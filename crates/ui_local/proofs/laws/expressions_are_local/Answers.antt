use Rattle.ui_local.proofs.RulesLocal.{expressions_agree, expressions_stay_within}
use Rattle.ui_local.proofs.laws.expressions_are_local.Goals as goal

pub returns-clause-same : goal.returns-clause-same
returns-clause-same c = expressions_agree

pub returns-clause-within : goal.returns-clause-within
returns-clause-within c = expressions_stay_within
