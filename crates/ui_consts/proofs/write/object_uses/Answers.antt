use Rattle.ui_consts.proofs.WriteLemmas.{uses-turn}
use Rattle.ui_consts.proofs.write.object_uses.Goals as goal

pub loop-object-preserved : goal.loop-object-preserved
loop-object-preserved c = uses-turn c.loop-object.object _ _ c.loop-object.invariant c.in_ok-push.ensures.items
