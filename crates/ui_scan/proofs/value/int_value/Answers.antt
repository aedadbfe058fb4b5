use Rattle.std.proofs.Common.{◌≡◌, ◌≤◌, ◌∙◌, ap, drop, arith}
use Rattle.std.specs.Prelude.{Some, is_some, pos}
use mir.Syntax.{w128}
use Rattle.std.proofs.lemmas.Int.{ints, to_z_pos}
use Rattle.std.proofs.lemmas.List.{take_rest}
use Rattle.ui_scan.specs.Digits.{whole, greatest}
use Rattle.ui_scan.specs.Value.{int_value}
use Rattle.ui_scan.proofs.NumberLaws.{whole_within}
use Rattle.ui_scan.proofs.value.int_value.Goals as goal
use Rattle.ui_scan.proofs.value.int_value.Goals.{After-whole-number}

-- the number of the digits behind the prefix
number_is : (c : After-whole-number) → c.whole-number.result ≡ Some (int_value c.args.text.now)
number_is c =
    let text = c.args.text.now in
    c.whole-number.ensures ∙ ap (whole c.radix_of-radix.result.base) (take_rest text c.radix_of-radix.result.len)
    ∙ ap (λ r. whole r.base (drop r.len text)) c.radix_of-radix.ensures.value
    ∙ whole_within _ _ c.requires

pub unwrap-requires : goal.unwrap-requires
unwrap-requires c = ap is_some (number_is c)

pub overflow_cast-result : goal.overflow_cast-result
overflow_cast-result c =
    let e : c.unwrap.result ≡ int_value c.args.text.now = (let a = number_is (goal.at.overflow_cast-result c).After-whole-number in let b = c.unwrap.ensures in cc) in
    let small : c.unwrap.result ≤ greatest = omega (arith, e, c.requires) in
    omega (arith, ints, small)

pub returns : goal.returns
returns c =
    let e : c.unwrap.result ≡ int_value c.args.text.now = (let a = number_is (goal.at.returns c).After-whole-number in let b = c.unwrap.ensures in cc) in
    to_z_pos w128 c.unwrap.result (omega (arith, e, c.requires)) ∙ ap pos e
