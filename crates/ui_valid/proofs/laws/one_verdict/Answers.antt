use Rattle.ui_valid.proofs.Unique.{one_fault, no_fault, one_file}
use Rattle.ui_valid.proofs.laws.one_verdict.Goals as goal

pub returns-clause-fault : goal.returns-clause-fault
returns-clause-fault c = λ kind path parts b d f g. one_fault kind path parts b d f g

pub returns-clause-file : goal.returns-clause-file
returns-clause-file c = λ kind path parts x y v w. one_file kind path parts x y v w

pub returns-clause-either : goal.returns-clause-either
returns-clause-either c = λ kind path parts x b v f. no_fault kind path parts x b v f
