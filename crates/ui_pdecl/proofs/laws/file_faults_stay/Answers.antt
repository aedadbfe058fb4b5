use Rattle.ui_pdecl.proofs.FaultKinds.{file_faults_stay}
use Rattle.ui_pdecl.proofs.laws.file_faults_stay.Goals as goal

pub returns : goal.returns
returns c = file_faults_stay
