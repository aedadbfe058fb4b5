use Rattle.ui_build.proofs.Deciding.{build_same}
use Rattle.ui_build.proofs.laws.sources_decide.Goals as goal

pub returns : goal.returns
returns c = build_same
