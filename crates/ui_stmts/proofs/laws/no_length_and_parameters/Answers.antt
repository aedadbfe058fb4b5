use Rattle.ui_stmts.proofs.NoBoth.{no_both}
use Rattle.ui_stmts.proofs.laws.no_length_and_parameters.Goals as goal

pub returns : goal.returns
returns c = no_both
