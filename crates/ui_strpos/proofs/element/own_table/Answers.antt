use Rattle.ui_strpos.specs.FirstUses.{own_first_uses}
use Rattle.ui_strpos.specs.OwnTable.{own_places}
use Rattle.ui_strpos.proofs.element.own_table.Goals as goal

pub returns-clause-first_uses : goal.returns-clause-first_uses
returns-clause-first_uses c is = own_first_uses is

pub returns-clause-places : goal.returns-clause-places
returns-clause-places c is = own_places is
