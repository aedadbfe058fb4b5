use Rattle.ui_consts.proofs.WriteLemmas.{same_turn}
use Rattle.ui_consts.proofs.write.add_same.Goals as goal

pub loop-i-preserved : goal.loop-i-preserved
loop-i-preserved c = same_turn c.args.s c.args.bytes.now c.loop-i._i c.args.out.now c.loop-i.out _ c.requires.room.ten c.requires.short c.loop-i.invariant c.in_ok-add.ensures
