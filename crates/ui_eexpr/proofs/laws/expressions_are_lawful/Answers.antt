use Rattle.ui_eexpr.proofs.ExprLaws.{expression_lawful}
use Rattle.ui_eexpr.proofs.laws.expressions_are_lawful.Goals as goal

pub returns : goal.returns
returns c = expression_lawful
