use Rattle.ui_depth.proofs.Missing.{not_by_four, not_by_sixteen}
use Rattle.ui_depth.proofs.laws.no_fixed_number.Goals as goal

pub returns-clause-four : goal.returns-clause-four
returns-clause-four c = not_by_four

pub returns-clause-sixteen : goal.returns-clause-sixteen
returns-clause-sixteen c = not_by_sixteen
