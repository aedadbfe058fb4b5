use Rattle.ui_consts.proofs.ListLaws.{listed}
use Rattle.ui_consts.proofs.laws.lists_are_lists.Goals as goal

pub returns : goal.returns
returns c = listed
