use Rattle.std.proofs.Common.{arith}
use Rattle.ui_consts.proofs.NumberingLemmas.{below_all, below_at, below_more, below_none, below_room}
use Rattle.ui_consts.proofs.numbered.number_below.Goals as goal

pub loop-below-init : goal.loop-below-init
loop-below-init c = below_none c.args.strings.now.keys c.new-entries.result.items c.new-entries.ensures.items

pub below_of-requires-clause-room : goal.below_of-requires-clause-room
below_of-requires-clause-room c = below_room c.args.belows.now c.loop-below.below-index c.loop-below.entries.items c.args.strings.now.keys c.loop-below.strings.keys c.requires.room c.requires.few c.loop-below-test.true c.loop-below.invariant

pub below_of-requires-clause-is : goal.below_of-requires-clause-is
below_of-requires-clause-is c = below_at c.args.belows.now c.loop-below.below-index c.below-item.result _ c.requires.each c.loop-below-test.true c.below-item.is

pub loop-below-preserved : goal.loop-below-preserved
loop-below-preserved c = below_more c.args.belows.now c.loop-below.below-index c.loop-below.entries.items _ c.args.strings.now.keys c.loop-below.strings.keys _ c.in_ok-entry.entry c.below-item.result _ c.loop-below-test.true c.below-item.is c.in_ok-push.ensures.items c.loop-below.invariant c.in_ok-entry.ensures.texts c.in_ok-entry.ensures.below c.in_ok-entry.ensures.used

pub returns : goal.returns
returns c = below_all c.args.belows.now c.loop-below.below-index c.loop-below.entries.items c.args.strings.now.keys c.loop-below.strings.keys (omega arith) c.loop-below.invariant
