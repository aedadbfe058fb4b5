use Rattle.ui_estmt.proofs.StmtLaws.{statement_lawful}
use Rattle.ui_estmt.proofs.laws.statements_are_lawful.Goals as goal

pub returns : goal.returns
returns c = statement_lawful
