use Rattle.ui_set_local.proofs.SearchLocal.{satisfying_agrees}
use Rattle.ui_set_local.proofs.laws.satisfying_is_local.Goals as goal

pub returns : goal.returns
returns c = satisfying_agrees
