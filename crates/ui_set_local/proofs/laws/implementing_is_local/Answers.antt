use Rattle.ui_set_local.proofs.SitesLocal.{implementing_agrees}
use Rattle.ui_set_local.proofs.laws.implementing_is_local.Goals as goal

pub returns : goal.returns
returns c = implementing_agrees
