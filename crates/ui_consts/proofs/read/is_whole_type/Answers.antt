use Rattle.ui_consts.proofs.ReadSteps.{no_type}
use Rattle.ui_consts.proofs.read.is_whole_type.Goals as goal

pub returns-in-None : goal.returns-in-None
returns-in-None c = no_type _ c.args.k c.in-None.ensures
