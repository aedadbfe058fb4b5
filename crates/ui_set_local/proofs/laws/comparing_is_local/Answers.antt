use Rattle.ui_set_local.proofs.SearchLocal.{comparing_agrees}
use Rattle.ui_set_local.proofs.laws.comparing_is_local.Goals as goal

pub returns : goal.returns
returns c = comparing_agrees
