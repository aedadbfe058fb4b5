use Rattle.ui_pexpr.proofs.Stays.{sig_faults_stay}
use Rattle.ui_pexpr.proofs.laws.sig_faults_stay.Goals as goal

pub returns : goal.returns
returns c = sig_faults_stay
