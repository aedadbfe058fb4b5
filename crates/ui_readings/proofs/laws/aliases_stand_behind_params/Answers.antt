use Rattle.ui_readings.proofs.AliasesOnly.{aliases_exactly}
use Rattle.ui_readings.proofs.AliasesStand.{aliases_behind_params}
use Rattle.ui_readings.proofs.laws.aliases_stand_behind_params.Goals as goal

pub returns-clause-behind : goal.returns-clause-behind
returns-clause-behind c = aliases_behind_params

pub returns-clause-exactly : goal.returns-clause-exactly
returns-clause-exactly c = aliases_exactly
