use Rattle.ui_pexpr.proofs.Stays.{type_faults_stay}
use Rattle.ui_pexpr.proofs.laws.type_faults_stay.Goals as goal

pub returns : goal.returns
returns c = type_faults_stay
