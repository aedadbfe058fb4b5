use Rattle.std.proofs.Common.{◌≡◌, ◌∙◌, ◌+◌, ◌≤◌, length, drop, ap, arith}
use Rattle.std.proofs.lemmas.List.{take_rest}
use Rattle.ui_scan.specs.Letters.{continuing_len, name_len}
use Rattle.ui_scan.proofs.LowLaws.{name_goes_on, name_ends}
use Rattle.ui_scan.proofs.letters.name_len.Goals as goal
use Rattle.ui_scan.proofs.letters.name_len.Goals.{After-continuing_len-more, Else-more-eq0}

-- how many bytes the letter or digit there has
more_is : (c : After-continuing_len-more) → c.continuing_len-more.result ≡ continuing_len (drop c.loop-len.len c.args.bytes.now)
more_is c = c.continuing_len-more.ensures ∙ ap continuing_len (take_rest c.args.bytes.now c.loop-len.len)

step : (c : Else-more-eq0) → (c.loop-len.len + c.continuing_len-more.result ≤ length c.args.bytes.now)
    × (c.loop-len.len + c.continuing_len-more.result + name_len (drop (c.loop-len.len + c.continuing_len-more.result) c.args.bytes.now) ≡ c.loop-len.len + name_len (drop c.loop-len.len c.args.bytes.now))
step c = name_goes_on c.args.bytes.now c.loop-len.len c.continuing_len-more.result c.loop-len.invariant.within
    (c.continuing_len-more.ensures ∙ ap continuing_len (take_rest c.args.bytes.now c.loop-len.len)) (omega arith)

pub returns-then-more-eq0-clause-len : goal.returns-then-more-eq0-clause-len
returns-then-more-eq0-clause-len c =
    let e = name_ends (drop c.loop-len.len c.args.bytes.now) c.continuing_len-more.result (more_is (goal.at.returns-then-more-eq0-clause-len c).After-continuing_len-more) c.if-more-eq0.true in
    omega (arith, e, c.loop-len.invariant.so_far)

pub loop-len-preserved : goal.loop-len-preserved
loop-len-preserved c = record { within = (step c).0; so_far = (step c).1 ∙ c.loop-len.invariant.so_far }

pub loop-len-smaller : goal.loop-len-smaller
loop-len-smaller c = omega (arith, (step c).0)
