use Rattle.ui_consts.proofs.ReadLaws.{read_back}
use Rattle.ui_consts.proofs.laws.reads_back.Goals as goal

pub returns : goal.returns
returns c = read_back
