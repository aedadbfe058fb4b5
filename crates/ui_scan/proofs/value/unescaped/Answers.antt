use Rattle.std.proofs.Common.{◌≡◌, ◌∙◌, ◌++◌, ◌+◌, drop, sym, ap, is_ok, arith}
use Rattle.std.specs.Prelude.{Some}
use Rattle.std.proofs.lemmas.List.{take_rest}
use Rattle.std.proofs.ResultArms.{chosen}
use Rattle.ui_scan.specs.Escape.{escape}
use Rattle.ui_scan.specs.Value.{unescaped}
use Rattle.ui_scan.proofs.ValueLaws.{one_byte, one_escape, no_escape, escape_within, unescaped_done}
use Rattle.ui_scan.proofs.value.unescaped.Goals as goal
use Rattle.ui_scan.proofs.value.unescaped.Goals.{In-Some}

pub loop-at-preserved-then-bytes-at-ne92 : goal.loop-at-preserved-then-bytes-at-ne92
loop-at-preserved-then-bytes-at-ne92 c = record {
  within = omega arith;
  so_far = ap (λ xs. xs ++ unescaped (drop (c.loop-at.at + 1) c.args.bytes.now)) (chosen _ _ _ _ c.push.ensures.items (ap is_ok c.in_ok-push.was))
      ∙ one_byte c.args.bytes.now c.loop-at.out.items c.loop-at.at c.loop-at-test.true c.loop-at.invariant.so_far c.if-bytes-at-ne92.true;
}

pub returns-in_default : goal.returns-in_default
returns-in_default c =
    no_escape c.args.bytes.now c.loop-at.out.items c.loop-at.at c.loop-at-test.true c.loop-at.invariant.so_far c.if-bytes-at-ne92.false
    (ap (escape 34) (sym (take_rest c.args.bytes.now c.loop-at.at)) ∙ sym c.escape_at.ensures.value ∙ c.in_default.is)

found : (c : In-Some) → escape 34 (drop c.loop-at.at c.args.bytes.now) ≡ Some c.in-Some.escape
found c = ap (escape 34) (sym (take_rest c.args.bytes.now c.loop-at.at)) ∙ sym c.escape_at.ensures.value ∙ c.in-Some.is

pub loop-at-smaller : goal.loop-at-smaller
loop-at-smaller c =
    let it = escape_within c.args.bytes.now c.loop-at.out.items c.loop-at.at c.loop-at-test.true c.loop-at.invariant.so_far c.in-Some.escape (found (goal.at.loop-at-smaller c).In-Some) in
    omega (arith, it.0, it.1)

pub loop-at-preserved : goal.loop-at-preserved
loop-at-preserved c =
    let a = (goal.at.loop-at-preserved c).In-Some in
    let it = escape_within c.args.bytes.now c.loop-at.out.items c.loop-at.at c.loop-at-test.true c.loop-at.invariant.so_far c.in-Some.escape (found a) in
    record {
      within = it.1;
      so_far = ap (λ xs. xs ++ unescaped (drop (c.loop-at.at + c.in-Some.escape.len) c.args.bytes.now)) c.in_ok-push_escaped.ensures
          ∙ one_escape c.args.bytes.now c.loop-at.out.items c.loop-at.at c.loop-at-test.true c.loop-at.invariant.so_far c.in-Some.escape c.if-bytes-at-ne92.false (found a);
    }

pub returns : goal.returns
returns c = unescaped_done c.args.bytes.now c.loop-at.out.items c.loop-at.at c.loop-at-test.false c.loop-at.invariant.so_far
