use Rattle.ui_stmts.proofs.Decides.{reads_files}
use Rattle.ui_stmts.proofs.laws.reads_files_exactly.Goals as goal

pub returns : goal.returns
returns c = reads_files
