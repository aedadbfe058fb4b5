use Rattle.std.proofs.Common.{◌≡◌, ◌∙◌, ap, sym, arith}
use Rattle.std.specs.Prelude.{Some}
use Rattle.ui_scan.specs.Digits.{number_of}
use Rattle.ui_scan.proofs.NumberLaws.{whole_within}
use Rattle.ui_scan.proofs.digits.whole.Goals as goal

pub returns-in-Some : goal.returns-in-Some
returns-in-Some c =
    let e : c.from.result ≡ number_of c.args.base c.args.digits.now = c.from.ensures ∙ c.in-Some.ensures.number in
    ap Some e ∙ sym (whole_within c.args.base c.args.digits.now (omega (arith, c.in-Some.ensures.number, c.in-Some.ensures.small)))
