use Rattle.ui_types.specs.declared.id.TypeId.{TypeId}
use Rattle.ui_infer.proofs.PushLemmas.{numbered_step, pushed_valid}
use Rattle.ui_infer.proofs.arguments.explicit_bindings.Goals as goal

pub loop-k-preserved : goal.loop-k-preserved
loop-k-preserved c =
    let d : TypeId = record { 0 = 0 } in
    let e = c.in_ok-push.ensures.items in
    record {
      valid = λ table h. pushed_valid table c.loop-k.bindings.items c.push.new.self.items _
          (c.loop-k.invariant.valid table h) (h c.loop-k.k d c.loop-k-test.true) e;
      value = λ table. numbered_step table c.args.explicit.now c.loop-k.k d c.loop-k.bindings.items
          c.push.new.self.items _ c.loop-k-test.true e (c.loop-k.invariant.value table);
    }
