use Rattle.std.proofs.Common.{◌≡◌, suc, ◌-◌, ◌∙◌, true, false, arith, rules, tests}
use Rattle.std.specs.Prelude.{nat_lt}
use Rattle.std.proofs.lemmas.Result.{err_from_is_err_and}
use Rattle.ui_strpos.specs.Lists.{step, ends, is_done}
use Rattle.ui_eexpr.specs.Exprs.{expression, sel_value, indexed_value, entry}
use Rattle.ui_eread.proofs.ReadSteps.{whole, refused, too_deep, no_code}
use Rattle.ui_eread.proofs.read.+expr.Goals as goal

pub get_expressions-returns-in_err-item-clause-read : goal.get_expressions-returns-in_err-item-clause-read
get_expressions-returns-in_err-item-clause-read t c =
    let p = err_from_is_err_and c.from_residual-in_err-item.result
    c.from_residual-in_err-item.ensures.1 in
    rw (p.1, p.2, c.in_ok-count.ensures.read) (ends (expression c.args.locals c.args.depth) _
    c.items.list.items c.in_ok-count.count c.items.counter c.items.input _ c.items-test.true
    c.in_err-item.ensures.read c.items.invariant.so_far)

pub get_expressions-items-preserved : goal.get_expressions-items-preserved
get_expressions-items-preserved t c = record {
  so_far =
      rw c.in_ok-push.ensures.items (step (expression c.args.locals c.args.depth)
      c.items.list.items c.in_ok-count.count c.items.counter c.items.input c.get_expression.new.input
      c.in_ok-item.item _ c.items-test.true c.in_ok-item.ensures.read c.items.invariant.so_far);
  context = c.in_ok-item.ensures.context ∙ c.items.invariant.context;
}

pub get_expressions-returns-clause-read : goal.get_expressions-returns-clause-read
get_expressions-returns-clause-read t c =
    rw (c.from_vec.ensures, c.in_ok-count.ensures.read) (is_done (expression c.args.locals c.args.depth)
    c.items.list.items c.in_ok-count.count c.items.counter c.items.input _ c.items-test.false
    c.items.invariant.so_far)

pub get_sel_values-returns-in_err-item-clause-read : goal.get_sel_values-returns-in_err-item-clause-read
get_sel_values-returns-in_err-item-clause-read t c =
    let p = err_from_is_err_and c.from_residual-in_err-item.result
    c.from_residual-in_err-item.ensures.1 in
    rw (p.1, p.2, c.in_ok-count.ensures.read) (ends (sel_value (expression c.args.locals c.args.depth)) _
    c.items.list.items c.in_ok-count.count c.items.counter c.items.input _ c.items-test.true
    c.in_err-item.ensures.read c.items.invariant.so_far)

pub get_sel_values-items-preserved : goal.get_sel_values-items-preserved
get_sel_values-items-preserved t c = record {
  so_far =
      rw c.in_ok-push.ensures.items (step (sel_value (expression c.args.locals c.args.depth))
      c.items.list.items c.in_ok-count.count c.items.counter c.items.input c.get_sel_value.new.input
      c.in_ok-item.item _ c.items-test.true c.in_ok-item.ensures.read c.items.invariant.so_far);
  context = c.in_ok-item.ensures.context ∙ c.items.invariant.context;
}

pub get_sel_values-returns-clause-read : goal.get_sel_values-returns-clause-read
get_sel_values-returns-clause-read t c =
    rw (c.from_vec.ensures, c.in_ok-count.ensures.read) (is_done (sel_value (expression c.args.locals c.args.depth))
    c.items.list.items c.in_ok-count.count c.items.counter c.items.input _ c.items-test.false
    c.items.invariant.so_far)

pub get_indexed_values-returns-in_err-item-clause-read : goal.get_indexed_values-returns-in_err-item-clause-read
get_indexed_values-returns-in_err-item-clause-read t c =
    let p = err_from_is_err_and c.from_residual-in_err-item.result
    c.from_residual-in_err-item.ensures.1 in
    rw (p.1, p.2, c.in_ok-count.ensures.read) (ends (indexed_value (expression c.args.locals c.args.depth)) _
    c.items.list.items c.in_ok-count.count c.items.counter c.items.input _ c.items-test.true
    c.in_err-item.ensures.read c.items.invariant.so_far)

pub get_indexed_values-items-preserved : goal.get_indexed_values-items-preserved
get_indexed_values-items-preserved t c = record {
  so_far =
      rw c.in_ok-push.ensures.items (step (indexed_value (expression c.args.locals c.args.depth))
      c.items.list.items c.in_ok-count.count c.items.counter c.items.input c.get_indexed_value.new.input
      c.in_ok-item.item _ c.items-test.true c.in_ok-item.ensures.read c.items.invariant.so_far);
  context = c.in_ok-item.ensures.context ∙ c.items.invariant.context;
}

pub get_indexed_values-returns-clause-read : goal.get_indexed_values-returns-clause-read
get_indexed_values-returns-clause-read t c =
    rw (c.from_vec.ensures, c.in_ok-count.ensures.read) (is_done (indexed_value (expression c.args.locals c.args.depth))
    c.items.list.items c.in_ok-count.count c.items.counter c.items.input _ c.items-test.false
    c.items.invariant.so_far)

pub get_entries-returns-in_err-item-clause-read : goal.get_entries-returns-in_err-item-clause-read
get_entries-returns-in_err-item-clause-read t c =
    let p = err_from_is_err_and c.from_residual-in_err-item.result
    c.from_residual-in_err-item.ensures.1 in
    rw (p.1, p.2, c.in_ok-count.ensures.read) (ends (entry (expression c.args.locals c.args.depth)) _
    c.items.list.items c.in_ok-count.count c.items.counter c.items.input _ c.items-test.true
    c.in_err-item.ensures.read c.items.invariant.so_far)

pub get_entries-items-preserved : goal.get_entries-items-preserved
get_entries-items-preserved t c = record {
  so_far =
      rw c.in_ok-push.ensures.items (step (entry (expression c.args.locals c.args.depth))
      c.items.list.items c.in_ok-count.count c.items.counter c.items.input c.get_entry.new.input
      c.in_ok-item.item _ c.items-test.true c.in_ok-item.ensures.read c.items.invariant.so_far);
  context = c.in_ok-item.ensures.context ∙ c.items.invariant.context;
}

pub get_entries-returns-clause-read : goal.get_entries-returns-clause-read
get_entries-returns-clause-read t c =
    rw (c.from_vec.ensures, c.in_ok-count.ensures.read) (is_done (entry (expression c.args.locals c.args.depth))
    c.items.list.items c.in_ok-count.count c.items.counter c.items.input _ c.items-test.false
    c.items.invariant.so_far)

pub get_expression-returns-in_err-code-clause-read :
    goal.get_expression-returns-in_err-code-clause-read
get_expression-returns-in_err-code-clause-read t c =
    let p = err_from_is_err_and c.from_residual.result c.from_residual.ensures.1 in
    rw (p.1, p.2) (no_code c.args.locals c.args.depth _ c.args.input.now c.in_err-code.ensures.read)

pub get_expression-returns-then-code-ge26-clause-read :
    goal.get_expression-returns-then-code-ge26-clause-read
get_expression-returns-then-code-ge26-clause-read t c =
    let past : nat_lt c.in_ok-code.code 26 ≡ false = search (rules, tests) in
    rw (c.bad_code.ensures, c.place-offset.ensures) (refused c.args.locals c.args.depth
    c.in_ok-code.code c.args.input.now _ c.in_ok-code.ensures.read past)

pub get_expression-returns-then-depth-eq0-clause-read :
    goal.get_expression-returns-then-depth-eq0-clause-read
get_expression-returns-then-depth-eq0-clause-read t c =
    rw (c.bad_code-then-depth-eq0.ensures, c.place-offset.ensures, c.if-depth-eq0.true)
    (too_deep c.args.locals c.in_ok-code.code c.args.input.now _ c.in_ok-code.ensures.read)

pub get_expression-returns-clause-read : goal.get_expression-returns-clause-read
get_expression-returns-clause-read t c =
    let known : nat_lt c.in_ok-code.code 26 ≡ true = search (rules, tests) in
    let deep : c.args.depth ≡ suc (c.args.depth - 1) = omega arith in
    whole c.args.locals c.args.depth (c.args.depth - 1) c.in_ok-code.code c.get_layer.result
    c.args.input.now _ _ deep c.in_ok-code.ensures.read known c.get_layer.ensures.read
