use Rattle.ui_syntax.proofs.Decides.{reads_exprs, reads_types, reads_sigs}
use Rattle.ui_syntax.proofs.laws.reads_exactly.Goals as goal

pub returns-clause-expressions : goal.returns-clause-expressions
returns-clause-expressions c = reads_exprs

pub returns-clause-types : goal.returns-clause-types
returns-clause-types c = reads_types

pub returns-clause-signatures : goal.returns-clause-signatures
returns-clause-signatures c = reads_sigs
