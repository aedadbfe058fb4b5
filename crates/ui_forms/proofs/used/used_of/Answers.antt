use Rattle.ui_forms.proofs.NameLemmas.{set_none}
use Rattle.ui_forms.proofs.used.used_of.Goals as goal

pub loop-constant-init : goal.loop-constant-init
loop-constant-init c q = set_none _ c.new-used.result q c.new-used.ensures
