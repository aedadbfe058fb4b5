use Rattle.ui_consts.proofs.ReadSteps.{none_there}
use Rattle.ui_consts.proofs.read.text_at.Goals as goal

pub returns-in-None : goal.returns-in-None
returns-in-None c = none_there _ c.args.k c.in-None.ensures
