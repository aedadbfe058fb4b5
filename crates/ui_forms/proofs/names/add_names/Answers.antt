use Rattle.ui_forms.proofs.NameLemmas.{new_more, set_more}
use Rattle.ui_forms.proofs.names.add_names.Goals as goal

pub loop-constant-preserved : goal.loop-constant-preserved
loop-constant-preserved c = record {
  new = λ rest. new_more (λ x. x.name) c.args.constants.now c.loop-constant.constant-index c.loop-constant.names c.constant-item.result c.bytes.result.now 0 c.add.new.self c.in_ok-add.field-0 rest _ c.loop-constant-test.true c.constant-item.is c.bytes.ensures c.in_ok-add.ensures.now c.in_ok-add.ensures.added c.if-not-branch.false (c.loop-constant.invariant.new rest);
  set = λ q. set_more (λ x. x.name) c.args.constants.now c.loop-constant.constant-index c.loop-constant.names c.constant-item.result c.bytes.result.now q 0 c.add.new.self _ c.loop-constant-test.true c.constant-item.is c.bytes.ensures c.in_ok-add.ensures.now (c.loop-constant.invariant.set q);
}
