use Rattle.ui_forms.proofs.ConstantLemmas.{several_trees}
use Rattle.ui_forms.proofs.constant.one_tree.Goals as goal

pub returns-in-len2-up : goal.returns-in-len2-up
returns-in-len2-up c = several_trees c.args.trees.now c.in-Some.trees c.as_slice.result.now c.in-Some.is c.as_slice.ensures c.in-len2-up.len_at_least
