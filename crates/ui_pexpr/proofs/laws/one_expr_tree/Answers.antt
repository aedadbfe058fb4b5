use Rattle.ui_pexpr.proofs.Trees.{one_expr_tree}
use Rattle.ui_pexpr.proofs.laws.one_expr_tree.Goals as goal

pub returns : goal.returns
returns c = one_expr_tree
