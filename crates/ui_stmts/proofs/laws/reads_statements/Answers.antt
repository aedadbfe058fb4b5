use Rattle.ui_stmts.proofs.StmtLaws.{reads_stmts}
use Rattle.ui_stmts.proofs.laws.reads_statements.Goals as goal

pub returns : goal.returns
returns c = reads_stmts
