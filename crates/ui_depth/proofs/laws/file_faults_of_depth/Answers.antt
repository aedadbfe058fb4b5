use Rattle.ui_depth.proofs.FilePasses.{file_shows_depth, file_passes_enough, file_passes_front}
use Rattle.ui_depth.proofs.laws.file_faults_of_depth.Goals as goal

pub returns-clause-shows : goal.returns-clause-shows
returns-clause-shows c = file_shows_depth

pub returns-clause-files : goal.returns-clause-files
returns-clause-files c = file_passes_enough

pub returns-clause-fronts : goal.returns-clause-fronts
returns-clause-fronts c = file_passes_front
