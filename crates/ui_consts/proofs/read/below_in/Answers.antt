use Rattle.ui_consts.specs.Record.{over}
use Rattle.ui_consts.proofs.ReadSteps.{prints_of}
use Rattle.ui_consts.proofs.read.below_in.Goals as goal

pub belows_of-requires : goal.belows_of-requires
belows_of-requires c = prints_of (over c.args.frame.now) c.in_ok-root.field-0 c.in-Some.root _ c.in-Some.is c.in_ok-root.ensures.fits c.items.ensures
