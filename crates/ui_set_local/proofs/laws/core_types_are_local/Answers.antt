use Rattle.ui_set_local.proofs.TermsLocal.{core_types_agree, core_types_stay_within}
use Rattle.ui_set_local.proofs.laws.core_types_are_local.Goals as goal

pub returns-clause-same : goal.returns-clause-same
returns-clause-same c = core_types_agree

pub returns-clause-within : goal.returns-clause-within
returns-clause-within c = core_types_stay_within
