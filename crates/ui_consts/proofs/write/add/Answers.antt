use Rattle.ui_consts.proofs.WriteLemmas.{Adds-one}
use Rattle.ui_consts.proofs.write.add.Goals as goal

pub returns-in-Ok : goal.returns-in-Ok
returns-in-Ok c = Adds-one c.args.s c.args.bytes.now c.args.out.now _ c.requires.ten c.in-Ok.ensures.added
