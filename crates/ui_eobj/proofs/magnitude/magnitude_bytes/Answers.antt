use Rattle.std.proofs.Common.{arith}
use Rattle.ui_eobj.proofs.Magnitudes.{begun, pushed-first, pushed-number}
use Rattle.ui_eobj.proofs.magnitude.magnitude_bytes.Goals as goal

pub loop-rest-init : goal.loop-rest-init
loop-rest-init c = record { number = begun c.args.number c.new-bytes.result.items c.new-bytes.ensures.items; shortest = λ none first. omega (arith, none, c.requires) }

pub loop-rest-preserved : goal.loop-rest-preserved
loop-rest-preserved c = record {
  number = pushed-number c.loop-rest.rest c.loop-rest.bytes.items c.push.new.self.items c.args.number c.in_ok-push.ensures.items c.loop-rest.invariant.number;
  shortest = pushed-first c.loop-rest.rest c.loop-rest.bytes.items c.push.new.self.items c.loop-rest-test.true c.in_ok-push.ensures.items;
}
