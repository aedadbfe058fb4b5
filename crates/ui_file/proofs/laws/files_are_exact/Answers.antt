use Rattle.ui_file.proofs.Whole.{file_again, file_found}
use Rattle.ui_file.proofs.laws.files_are_exact.Goals as goal

pub returns-clause-again : goal.returns-clause-again
returns-clause-again c = λ x h. file_again x h

pub returns-clause-found : goal.returns-clause-found
returns-clause-found c = λ parts x ten bytes e. file_found parts x ten bytes e
