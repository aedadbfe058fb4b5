use Rattle.ui_tokens.proofs.ScanFaults.{tells_scan_faults}
use Rattle.ui_tokens.proofs.laws.scan_faults_by_bytes.Goals as goal

pub returns : goal.returns
returns c = tells_scan_faults
