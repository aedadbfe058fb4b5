use Rattle.ui_pexpr.proofs.Trees.{one_type_tree}
use Rattle.ui_pexpr.proofs.laws.one_type_tree.Goals as goal

pub returns : goal.returns
returns c = one_type_tree
