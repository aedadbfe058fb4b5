use Rattle.ui_readings.proofs.LengthTexts.{lengths_are_expressions}
use Rattle.ui_readings.proofs.laws.lengths_are_expressions.Goals as goal

pub returns : goal.returns
returns c = lengths_are_expressions
