use Rattle.ui_types.proofs.SameLemmas.{same_type_is}
use Rattle.ui_types.proofs.same.is_identical.Goals as goal

pub returns : goal.returns
returns c = same_type_is c.same.result _ _ c.same.ensures.trees
