use Rattle.ui_pexpr.proofs.Trees.{one_sig_tree}
use Rattle.ui_pexpr.proofs.laws.one_sig_tree.Goals as goal

pub returns : goal.returns
returns c = one_sig_tree
