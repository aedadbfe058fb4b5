use Rattle.ui_pexpr.proofs.Stays.{expr_faults_stay}
use Rattle.ui_pexpr.proofs.laws.expr_faults_stay.Goals as goal

pub returns : goal.returns
returns c = expr_faults_stay
