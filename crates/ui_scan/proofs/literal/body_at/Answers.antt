use Rattle.std.proofs.Common.{◌≡◌, ◌∙◌, ap, sym, drop, arith}
use Rattle.std.specs.Prelude.{Some}
use Rattle.std.proofs.lemmas.List.{length-drop, take_rest}
use Rattle.ui_scan.specs.Literal.{behind, item_len}
use Rattle.ui_scan.proofs.LiteralLaws.{loop_closed, loop_newline, loop_bad, loop_more, loop_item, body_open}
use Rattle.ui_scan.proofs.literal.body_at.Goals as goal
use Rattle.ui_scan.proofs.literal.body_at.Goals.{In-Some}

pub returns-then-b-quote-clause-body : goal.returns-then-b-quote-clause-body
returns-then-b-quote-clause-body c =
    sym (loop_closed c.args.quote c.args.bytes.now c.loop-at.at c.loop-at-test.true c.if-b-quote.true) ∙ c.loop-at.invariant.so_far

pub returns-then-b-eq10-clause-body : goal.returns-then-b-eq10-clause-body
returns-then-b-eq10-clause-body c =
    sym (loop_newline c.args.quote c.args.bytes.now c.loop-at.at c.loop-at-test.true c.if-b-quote.false c.if-b-eq10.true) ∙ c.loop-at.invariant.so_far

pub returns-in-None-clause-body : goal.returns-in-None-clause-body
returns-in-None-clause-body c =
    sym (loop_bad c.args.quote c.args.bytes.now c.loop-at.at c.loop-at-test.true c.if-b-quote.false c.if-b-eq10.false (ap (item_len c.args.quote) (sym (take_rest c.args.bytes.now c.loop-at.at)) ∙ sym c.item_len.ensures.len ∙ c.in-None.is)) ∙ c.loop-at.invariant.so_far

item : (c : In-Some) → item_len c.args.quote (drop c.loop-at.at c.args.bytes.now) ≡ Some c.in-Some.len
item c = ap (item_len c.args.quote) (sym (take_rest c.args.bytes.now c.loop-at.at)) ∙ sym c.item_len.ensures.len ∙ c.in-Some.is

pub loop-at-smaller : goal.loop-at-smaller
loop-at-smaller c =
    let it = loop_item c.args.quote c.args.bytes.now c.loop-at.at c.loop-at-test.true c.in-Some.len (item (goal.at.loop-at-smaller c).In-Some) in
    omega (arith, it.0, it.1)

pub loop-at-preserved : goal.loop-at-preserved
loop-at-preserved c =
    let it = loop_item c.args.quote c.args.bytes.now c.loop-at.at c.loop-at-test.true c.in-Some.len (item c) in
    record {
      within = it.1;
      so_far = loop_more c.args.quote c.args.bytes.now c.loop-at.at c.loop-at-test.true c.in-Some.len c.if-b-quote.false c.if-b-eq10.false (item c) ∙ c.loop-at.invariant.so_far;
    }

pub returns-clause-body : goal.returns-clause-body
returns-clause-body c =
    sym (ap (behind c.loop-at.at) (body_open c.args.quote (drop c.loop-at.at c.args.bytes.now) (omega (arith, length-drop c.loop-at.at c.args.bytes.now)))) ∙ c.loop-at.invariant.so_far
