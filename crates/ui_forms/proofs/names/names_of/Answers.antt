use Rattle.ui_forms.specs.Form.{names}
use Rattle.ui_forms.proofs.NameLemmas.{all_names_end, all_names_more, names_end, names_more, names_repeated, new_none, set_none}
use Rattle.ui_forms.proofs.names.names_of.Goals as goal

pub loop-part-init : goal.loop-part-init
loop-part-init c = record {
  new = new_none c.new-names.result (names c.args.parts.now) c.new-names.ensures;
  set = λ q. set_none _ c.new-names.result q c.new-names.ensures;
}

pub loop-part-preserved : goal.loop-part-preserved
loop-part-preserved c = record {
  new = names_more c.args.parts.now c.loop-part.part-index c.loop-part.names c.part-item.result c.loop-part-test.true c.part-item.is c.add_names.new.names c.as_slice.result.now c.in_ok-add_names.field-0 _ c.as_slice.ensures c.in_ok-add_names.ensures.new c.if-not-branch.false c.loop-part.invariant.new;
  set = λ q. all_names_more c.args.parts.now c.loop-part.part-index c.loop-part.names c.part-item.result c.loop-part-test.true c.part-item.is c.add_names.new.names c.as_slice.result.now q _ c.as_slice.ensures (c.in_ok-add_names.ensures.added c.if-not-branch.false q) (c.loop-part.invariant.set q);
}

pub returns-then-not-branch-clause-new : goal.returns-then-not-branch-clause-new
returns-then-not-branch-clause-new c = names_repeated c.args.parts.now c.loop-part.part-index c.loop-part.names c.part-item.result c.loop-part-test.true c.part-item.is c.add_names.new.names c.as_slice.result.now c.in_ok-add_names.field-0 _ c.as_slice.ensures c.in_ok-add_names.ensures.new c.if-not-branch.true c.loop-part.invariant.new

pub returns-clause-new : goal.returns-clause-new
returns-clause-new c = names_end c.args.parts.now c.loop-part.part-index c.loop-part.names c.loop-part-test.false _ c.loop-part.invariant.new

pub returns-clause-set : goal.returns-clause-set
returns-clause-set c = all_names_end c.args.parts.now c.loop-part.part-index c.loop-part.names c.loop-part-test.false c.loop-part.invariant.set
