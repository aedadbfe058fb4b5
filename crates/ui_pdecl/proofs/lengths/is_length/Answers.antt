use Rattle.ui_pdecl.proofs.TypeTexts.{several_groups}
use Rattle.ui_pdecl.proofs.lengths.is_length.Goals as goal

pub returns-in_default-2 : goal.returns-in_default-2
returns-in_default-2 c = several_groups c.args.groups.now c.in_default.len_at_least
