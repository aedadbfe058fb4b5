use Rattle.std.proofs.Common.{arith}
use Rattle.ui_frame.proofs.Appending.{so_far_next, so_far_last}
use Rattle.ui_frame.proofs.number.put_uint.Goals as goal

pub loop-rest-preserved : goal.loop-rest-preserved
loop-rest-preserved c =
    so_far_next c.args.n c.loop-rest.rest c.args.out.now.items c.loop-rest.out.items c.push.new.self.items
    c.loop-rest-test.true (omega arith) c.in_ok-push.ensures.items c.loop-rest.invariant

pub returns-clause-ok : goal.returns-clause-ok
returns-clause-ok c =
    so_far_last c.args.n c.loop-rest.rest c.args.out.now.items c.loop-rest.out.items c.push-2.new.self.items
    c.loop-rest-test.false c.in_ok-push-2.ensures.items c.loop-rest.invariant
