use Rattle.ui_satisfy.proofs.Right.{search_is_right}
use Rattle.ui_satisfy.proofs.laws.search_is_right.Goals as goal

pub returns : goal.returns
returns c = search_is_right
