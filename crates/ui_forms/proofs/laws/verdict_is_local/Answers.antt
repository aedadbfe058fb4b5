use Rattle.ui_forms.proofs.LocalLemmas.{local}
use Rattle.ui_forms.proofs.laws.verdict_is_local.Goals as goal

pub returns : goal.returns
returns c = local
