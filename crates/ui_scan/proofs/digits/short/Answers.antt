use Rattle.std.proofs.Common.{◌≡◌, ◌+◌, ◌*◌, arith, ap, sym, ◌∙◌}
use Rattle.ui_scan.proofs.NumberLaws.{number_of-nil, digit_counts, blank_counts}
use Rattle.ui_scan.proofs.digits.short.Goals as goal
use Rattle.ui_scan.proofs.digits.short.Goals.{then-b-ne95+else-number-ge-SHORT, else-b-ne95}

pub loop-b-init : goal.loop-b-init
loop-b-init c = sym (number_of-nil c.args.base)

pub loop-b-preserved : goal.loop-b-preserved
loop-b-preserved c =
    let i = c.loop-b.b-index in
    let digits = c.args.digits.now in
    elim c.if-b-ne95.branch [
      | then-b-ne95+else-number-ge-SHORT w ↦
          let step = digit_counts c.args.base digits i (omega arith) w.if-b-ne95.true in
          let same = ap (λ n. n * c.args.base) c.loop-b.invariant in
          let is : c.if-b-ne95.number ≡ c.loop-b.number * c.args.base + w.digit.result = w.number-is ∙ ap (λ x. c.loop-b.number * x + w.from-then-b-ne95.result) w.from.ensures ∙ ap (λ x. c.loop-b.number * c.args.base + x) w.from-then-b-ne95.ensures in
          omega (arith, is, step, same, w.digit.ensures.value)
      | else-b-ne95 w ↦
          let step = blank_counts c.args.base digits i (omega arith) w.if-b-ne95.false in
          omega (arith, step, w.number-is)
    ]
