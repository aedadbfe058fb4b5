use Rattle.ui_set_local.proofs.SitesLocal.{lookups_agree, lookups_stay_within}
use Rattle.ui_set_local.proofs.laws.lookups_are_local.Goals as goal

pub returns-clause-same : goal.returns-clause-same
returns-clause-same c = lookups_agree

pub returns-clause-within : goal.returns-clause-within
returns-clause-within c = lookups_stay_within
