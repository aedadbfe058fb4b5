use Rattle.std.proofs.Common.{◌∙◌}
use Rattle.std.proofs.lemmas.Result.{err_from_is_err_and}
use Rattle.ui_strpos.specs.Lists.{step, ends, is_done}
use Rattle.ui_strpos.proofs.fields.get_times.Goals as goal

pub returns-in_err-item-clause-read : goal.returns-in_err-item-clause-read
returns-in_err-item-clause-read g c =
    let p = err_from_is_err_and c.from_residual.result c.from_residual.ensures.1 in
    rw (p.1, p.2) (ends g.T.Fields.form _ c.items.list.items c.args.count c.items.counter c.items.input _ c.items-test.true c.in_err-item.ensures.read c.items.invariant.so_far)

pub items-preserved : goal.items-preserved
items-preserved g c = record {
  so_far = rw c.in_ok-push.ensures.items (step g.T.Fields.form c.items.list.items c.args.count c.items.counter c.items.input c.get.new.input c.in_ok-item.item _ c.items-test.true c.in_ok-item.ensures.read c.items.invariant.so_far);
  context = c.in_ok-item.ensures.context ∙ c.items.invariant.context;
}

pub returns-clause-read : goal.returns-clause-read
returns-clause-read g c = is_done g.T.Fields.form c.items.list.items c.args.count c.items.counter c.items.input _ c.items-test.false c.items.invariant.so_far
