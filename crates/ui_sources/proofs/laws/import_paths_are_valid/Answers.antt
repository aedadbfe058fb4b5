use Rattle.ui_sources.proofs.PathLemmas.{paths-are-valid}
use Rattle.ui_sources.proofs.laws.import_paths_are_valid.Goals as goal

pub returns : goal.returns
returns c = paths-are-valid
