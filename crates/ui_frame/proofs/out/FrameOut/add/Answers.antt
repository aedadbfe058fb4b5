use Rattle.std.proofs.Common.{ℕ, List, arith}
use Rattle.ui_frame.proofs.Growing.{Grown-set, IsWithin-get_or}
use Rattle.ui_frame.proofs.out.FrameOut.add.Goals as goal

pub push-requires : goal.push-requires
push-requires c =
    let parts : List (List (List ℕ)) = c.self.inside.sections in
    let ten = c.self.invariant.0.ten in
    let size = c.self.invariant.2 in
    let within = IsWithin-get_or parts c.number.result c.index-self-number.result (omega (arith, c.number.ensures.bound)) in
    let below = within.contents_le in
    omega arith

pub overflow_cast-number : goal.overflow_cast-number
overflow_cast-number c =
    let parts : List (List (List ℕ)) = c.self.inside.sections in
    let ten = c.self.invariant.0.ten in
    let count = c.self.invariant.1 in
    let within = IsWithin-get_or parts c.number.result c.index-self-number.result (omega (arith, c.number.ensures.bound)) in
    let below = within.elements_le in
    omega arith

pub invariant_of-self-2 : goal.invariant_of-self-2
invariant_of-self-2 c =
    let parts : List (List (List ℕ)) = c.self.inside.sections in
    let ten = c.self.invariant.0.ten in
    let count = c.self.invariant.1 in
    let size = c.self.invariant.2 in
    let grown = Grown-set parts c.number.result c.index-self-number.result c.push.new.self c.args.bytes.now (omega (arith, c.number.ensures.bound)) c.in_ok-push.ensures.ok in
    let sections = grown.sections in
    let elements_is = grown.elements_is in
    let contents_is = grown.contents_is in
    (record { ten = omega arith; count_fits = omega arith; bytes_fit = omega arith }, omega arith, omega arith)
