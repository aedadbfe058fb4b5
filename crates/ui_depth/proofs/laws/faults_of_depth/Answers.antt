use Rattle.ui_depth.proofs.Passes.{tells_exprs, tells_types, tells_sigs}
use Rattle.ui_depth.proofs.laws.faults_of_depth.Goals as goal

pub returns-clause-expressions : goal.returns-clause-expressions
returns-clause-expressions c = tells_exprs

pub returns-clause-types : goal.returns-clause-types
returns-clause-types c = tells_types

pub returns-clause-signatures : goal.returns-clause-signatures
returns-clause-signatures c = tells_sigs
