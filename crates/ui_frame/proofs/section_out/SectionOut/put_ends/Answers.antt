use Rattle.std.proofs.Common.{◌≡◌, ◌+◌, ◌<◌, ℕ, List, length, map, ap, arith, get_or, sym, ◌∙◌}
use Rattle.ui_frame.specs.Container.{joined, running}
use Rattle.ui_frame.specs.Opening.{cut}
use Rattle.ui_frame.proofs.Pieces.{running-cut}
use Rattle.ui_frame.proofs.Growing.{get_or-le-last, joined-whole, map-running}
use Rattle.ui_frame.proofs.section_out.SectionOut.put_ends.Goals as goal

pub put_shifted-requires : goal.put_shifted-requires
put_shifted-requires c k h =
    let s = c.self.inside in
    let whole = ap (λ (xss : List (List ℕ)). length (joined xss)) (sym c.self.view_is) ∙ ap length (joined-whole s.ends.items s.bytes.items c.self.invariant.0 c.self.invariant.1) in
    let last = c.self.invariant.1 in
    let within : k < length s.ends.items = omega (arith, ap length c.deref.ensures.value) in
    let below = get_or-le-last 0 s.ends.items k c.self.invariant.0 within in
    let at : get_or c.deref.result.now k 0 ≡ get_or s.ends.items k 0 = ap (λ (ns : List ℕ). get_or ns k 0) c.deref.ensures.value in
    let fits = c.requires in
    omega (arith, whole, at)

pub returns : goal.returns
returns c =
    let s = c.self.inside in
    let last = c.self.invariant.1 in
    let shift : (ℕ → ℕ) = λ n. c.args.start + n in
    let none : c.args.start + 0 ≡ c.args.start = omega arith in
    let ends : map shift c.deref.result.now ≡ running c.args.start (map length c.args.self.now) =
    ap (map shift) (c.deref.ensures.value ∙ sym (running-cut 0 s.ends.items s.bytes.items c.self.invariant.0 (omega arith)))
    ∙ map-running c.args.start 0 (map length (cut 0 s.ends.items s.bytes.items)) ∙ ap (λ (n : ℕ). running n (map length (cut 0 s.ends.items s.bytes.items))) none
    ∙ ap (λ (xss : List (List ℕ)). running c.args.start (map length xss)) c.self.view_is in
    rw (← ends) c.put_shifted.ensures
