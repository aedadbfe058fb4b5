use Rattle.ui_forms.specs.Numbers.{has}
use Rattle.ui_forms.proofs.SumLemmas.{no_name}
use Rattle.ui_forms.proofs.sums.selected.Goals as goal

pub returns-in_default : goal.returns-in_default
returns-in_default c = no_name (has c.args.imports.now) c.args.spot c.args.of.now c.args.member.now c.in_default.not-Name
