use Rattle.std.proofs.Common.{◌≡◌, ◌+◌, ◌++◌, ◌∷◌, [], ℕ, List, ap, length, ◌∙◌, sym, arith}
use Rattle.std.proofs.lemmas.List.{length-append}
use Rattle.ui_frame.specs.Container.{joined}
use Rattle.ui_frame.proofs.Growing.{ascends-push, cut-push, joined-whole, last_from-push}
use Rattle.ui_frame.proofs.section_out.SectionOut.push.Goals as goal
use Rattle.ui_frame.proofs.section_out.SectionOut.push.Goals.{After-len}

-- the bytes so far, by the section's value
size : (c : After-len) → c.len.result ≡ length c.self.inside.bytes.items
size c = c.len.ensures ∙ c.self.inside.bytes.ok.0

whole : (c : After-len) → length (joined c.args.self.now) ≡ length c.self.inside.bytes.items
whole c =
    let s = c.self.inside in
    ap (λ (xss : List (List ℕ)). length (joined xss)) (sym c.self.view_is) ∙ ap length (joined-whole s.ends.items s.bytes.items c.self.invariant.0 c.self.invariant.1)

pub overflow_cast-end : goal.overflow_cast-end
overflow_cast-end c =
    let at = (goal.at.overflow_cast-end c).After-len in
    let fits = c.requires in
    omega (arith, size at, whole at)

pub invariant_of-self-in_default : goal.invariant_of-self-in_default
invariant_of-self-in_default c =
    let s = c.self.inside in
    let at = (goal.at.invariant_of-self-in_default c).After-len in
    let ends = c.in_ok-push.ensures.items in
    let bytes = c.in_default.ensures.items in
    let last = c.self.invariant.1 in
    rw (ends, bytes) (ascends-push 0 s.ends.items _ c.self.invariant.0 (omega (arith, size at)), last_from-push 0 s.ends.items _ ∙ omega (arith, size at, length-append s.bytes.items c.args.bytes.now))

pub returns-clause-ok : goal.returns-clause-ok
returns-clause-ok c =
    let s = c.self.inside in
    let at = (goal.at.returns-clause-ok c).After-len in
    let ends : c.push.new.self.items ≡ s.ends.items ++ (length s.bytes.items + length c.args.bytes.now) ∷ [] = c.in_ok-push.ensures.items ∙ ap (λ (n : ℕ). s.ends.items ++ (n + length c.args.bytes.now) ∷ []) (size at) in
    let bytes = c.in_default.ensures.items in
    rw (ends, bytes) (cut-push 0 s.ends.items s.bytes.items c.args.bytes.now c.self.invariant.0 c.self.invariant.1 ∙ ap (λ (xss : List (List ℕ)). xss ++ c.args.bytes.now ∷ []) c.self.view_is)
