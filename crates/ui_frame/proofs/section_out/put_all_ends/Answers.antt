use Rattle.std.proofs.Common.{◌≡◌, ◌+◌, ◌++◌, ◌∷◌, ℕ, List, drop, length, map, ap, arith, sym, ◌∙◌}
use Rattle.std.proofs.lemmas.List.{drop_more, length-append}
use Rattle.std.proofs.lemmas.List.Concat.{flat_map-append}
use Rattle.ui_frame.specs.Container.{joined, running, words}
use Rattle.ui_frame.proofs.Growing.{ends-step}
use Rattle.ui_frame.proofs.section_out.put_all_ends.Goals as goal

pub loop-section-preserved : goal.loop-section-preserved
loop-section-preserved c =
    let i : ℕ = c.loop-section.section-index in
    let sections : List (List (List ℕ)) = c.args.sections.now in
    let section : List (List ℕ) = c.section-item.result in
    let rest : List (List ℕ) = joined (drop (i + 1) sections) in
    let first : drop i sections ≡ section ∷ drop (i + 1) sections = drop_more sections i section (omega arith) ∙ ap (λ (xss : List (List ℕ)). xss ∷ drop (i + 1) sections) (sym c.section-item.is) in
    let split : joined (drop i sections) ≡ section ++ rest = ap joined first in
    let both : joined (joined (drop i sections)) ≡ joined section ++ joined rest = ap joined split ∙ flat_map-append (λ (xs : List ℕ). xs) section rest in
    record {
      written =
          ap (λ (bs : List ℕ). bs ++ words (running (c.loop-section.start + length c.contents.result.now) (map length rest))) c.in_ok-put_ends.ensures
          ∙ ap (λ (bs : List ℕ). (c.loop-section.out.items ++ words (running c.loop-section.start (map length section))) ++ words (running (c.loop-section.start + length bs) (map length rest))) c.contents.ensures
          ∙ ends-step c.loop-section.out.items c.loop-section.start section rest
          ∙ ap (λ (xss : List (List ℕ)). c.loop-section.out.items ++ words (running c.loop-section.start (map length xss))) (sym split)
          ∙ c.loop-section.invariant.written;
      counted = omega (arith, c.loop-section.invariant.counted, ap length both, length-append (joined section) (joined rest), ap length c.contents.ensures);
    }
