use Rattle.ui_parse.proofs.Turns.{part_went_on, part_stopped}
use Rattle.ui_parse.proofs.list.part.Goals as goal

pub returns-in-Ok : goal.returns-in-Ok
returns-in-Ok g c = part_went_on _ _ _ _ _ _ _ _ _ _ _ c.step.ensures c.in-Ok.is c.behind_turn.ensures

pub returns-in-Err : goal.returns-in-Err
returns-in-Err g c = part_stopped _ _ _ _ _ _ _ _ _ c.step.ensures c.in-Err.is
