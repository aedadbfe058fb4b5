use Rattle.ui_readings.proofs.TagsOnly.{tags_exactly}
use Rattle.ui_readings.proofs.TagsStand.{tags_behind_fields}
use Rattle.ui_readings.proofs.laws.tags_stand_behind_fields.Goals as goal

pub returns-clause-behind : goal.returns-clause-behind
returns-clause-behind c = tags_behind_fields

pub returns-clause-exactly : goal.returns-clause-exactly
returns-clause-exactly c = tags_exactly
