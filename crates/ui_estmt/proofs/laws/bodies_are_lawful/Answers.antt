use Rattle.ui_estmt.proofs.StmtLaws.{body_lawful}
use Rattle.ui_estmt.proofs.laws.bodies_are_lawful.Goals as goal

pub returns : goal.returns
returns c = body_lawful
