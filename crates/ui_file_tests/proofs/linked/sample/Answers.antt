use Rattle.ui_file_tests.proofs.Samples.{made_is_small}
use Rattle.ui_file_tests.proofs.linked.sample.Goals as goal

pub returns : goal.returns
returns g c =
    made_is_small c.in_ok-package.package c.declare.new.package c.declare-2.new.package c.in_ok-below_of.field-0 c.in_ok-below_of-2.field-0 c.new-below.result.items c.push.new.self.items c.push-2.new.self.items
    c.in_ok-package.ensures c.in_ok-declare.ensures c.in_ok-declare-2.ensures c.new-below.ensures.items c.in_ok-push.ensures.items c.in_ok-push-2.ensures.items c.in_ok-below_of.ensures c.in_ok-below_of-2.ensures
    c.assert_name.ensures c.assert_name-2.ensures c.assert_name-3.ensures
