use Rattle.ui_stray.proofs.Tables.{one_put, cut_put, all_put}
use Rattle.ui_strpos.specs.Items.{target}
use Rattle.std.proofs.Common.{ℕ, arith, drop, [], ◌∷◌, ◌++◌, ◌∙◌, ap}
use Rattle.ui_stray.proofs.table.put_entries.Goals as goal

pub returns-in-Err : goal.returns-in-Err
returns-in-Err c =
    cut_put c.args.starts.now c.loop.out.items _ c.args.count c.loop.counter
    (drop c.loop.place c.args.bytes.now) c.in-Err.field-0 c.loop-test.true c.in-Err.ensures.read
    c.loop.invariant.so_far

pub loop-preserved : goal.loop-preserved
loop-preserved c = record {
  within = c.in-Ok.ensures.within;
  few = (let l = c.loop-test.true in omega arith);
  so_far = one_put c.args.starts.now c.loop.out.items c.push.new.self.items _
      c.args.bytes.now c.args.count c.loop.counter c.loop.place c.in-Ok.found.next
      (target c.in-Ok.found.section c.in-Ok.found.index) c.loop-test.true c.in-Ok.ensures.read
      (c.in_ok-push.ensures.items ∙ ap (λ (n : ℕ). c.loop.out.items ++ n ∷ []) c.number.ensures)
      c.loop.invariant.so_far;
}

pub returns : goal.returns
returns c =
    all_put c.args.starts.now c.loop.out.items _ c.args.count c.loop.counter
    (drop c.loop.place c.args.bytes.now) (let l = c.loop-test.false in omega arith)
    c.loop.invariant.so_far
