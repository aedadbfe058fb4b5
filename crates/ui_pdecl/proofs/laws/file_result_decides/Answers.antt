use Rattle.ui_pdecl.proofs.Decided.{decided}
use Rattle.ui_pdecl.proofs.laws.file_result_decides.Goals as goal

pub returns : goal.returns
returns c = decided
