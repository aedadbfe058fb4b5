use Rattle.ui_below.proofs.MarkLaws.{joined_as_marked, joined_is_listed, joined_holds, marks_the_paths}
use Rattle.ui_below.proofs.laws.list_of_paths.Goals as goal

pub returns-clause-marked : goal.returns-clause-marked
returns-clause-marked c = joined_as_marked

pub returns-clause-listed : goal.returns-clause-listed
returns-clause-listed c = joined_is_listed

pub returns-clause-holds : goal.returns-clause-holds
returns-clause-holds c = joined_holds

pub returns-clause-marks : goal.returns-clause-marks
returns-clause-marks c = marks_the_paths
