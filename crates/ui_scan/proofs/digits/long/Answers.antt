use Rattle.std.proofs.Common.{◌≡◌, ◌<◌, ◌+◌, ◌*◌, arith, ap, sym, ◌∙◌}
use Rattle.std.specs.Prelude.{Some}
use Rattle.std.proofs.lemmas.List.{take_all}
use Rattle.ui_scan.proofs.NumberLaws.{number_of-nil, number_of-take-le, past_greatest, within_greatest, whole_past, whole_within, digit_counts, blank_counts}
use Rattle.ui_scan.specs.Digits.{number_of, greatest}
use Rattle.ui_scan.proofs.digits.long.Goals as goal
use Rattle.ui_scan.proofs.digits.long.Goals.{then-b-ne95+else-number-digit, else-b-ne95}

pub loop-b-init : goal.loop-b-init
loop-b-init c = record { so_far = sym (number_of-nil c.args.base); small = omega arith }

pub returns-then-number-digit : goal.returns-then-number-digit
returns-then-number-digit c =
    let i = c.loop-b.b-index in
    let digits = c.args.digits.now in
    let step = digit_counts c.args.base digits i (omega arith) c.if-b-ne95.true in
    let past : greatest < c.loop-b.number * c.args.base + c.digit.result =
    past_greatest c.loop-b.number c.args.base c.digit.result (omega arith) c.digit.ensures.bound (rw (c.from-digit.ensures, c.from.ensures) at c.if-number-digit.true) in
    let front = number_of-take-le c.args.base digits (i + 1) (omega arith) in
    let same = ap (λ n. n * c.args.base) c.loop-b.invariant.so_far in
    sym (whole_past c.args.base digits (omega (arith, step, past, front, same, c.digit.ensures.value)))

pub loop-b-preserved : goal.loop-b-preserved
loop-b-preserved c =
    let i = c.loop-b.b-index in
    let digits = c.args.digits.now in
    elim c.if-b-ne95.branch [
      | then-b-ne95+else-number-digit w ↦
          let step = digit_counts c.args.base digits i (omega arith) w.if-b-ne95.true in
          let same = ap (λ n. n * c.args.base) c.loop-b.invariant.so_far in
          let within = within_greatest c.loop-b.number c.args.base w.digit.result (omega arith) w.digit.ensures.bound (rw (w.from-digit.ensures, w.from.ensures) at w.if-number-digit.false) in
          let is : c.if-b-ne95.number ≡ c.loop-b.number * c.args.base + w.digit.result = w.number-is ∙ ap (λ x. c.loop-b.number * x + w.from-digit.result) w.from-then-b-ne95.ensures ∙ ap (λ x. c.loop-b.number * c.args.base + x) w.from-digit.ensures in
          record { so_far = omega (arith, is, step, same, w.digit.ensures.value); small = omega (arith, is, within) }
      | else-b-ne95 w ↦
          let step = blank_counts c.args.base digits i (omega arith) w.if-b-ne95.false in
          record { so_far = omega (arith, step); small = omega arith }
    ]

pub returns : goal.returns
returns c =
    let all = ap (number_of c.args.base) (take_all c.loop-b.b-index c.args.digits.now (omega arith)) in
    let e : c.loop-b.number ≡ number_of c.args.base c.args.digits.now = c.loop-b.invariant.so_far ∙ all in
    ap Some e ∙ sym (whole_within c.args.base c.args.digits.now (omega (arith, e)))
