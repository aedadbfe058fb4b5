use Rattle.ui_infer_local.proofs.BindingsLocal.{inferred_same}
use Rattle.ui_infer_local.proofs.laws.inference_is_local.Goals as goal

pub returns-clause-same : goal.returns-clause-same
returns-clause-same c = λ set w w' cores formals actuals explicit g h.
    (inferred_same g cores formals actuals explicit h).equal

pub returns-clause-within : goal.returns-clause-within
returns-clause-within c = λ set w w' cores formals actuals explicit g h.
    (inferred_same g cores formals actuals explicit h).within
