use Rattle.std.proofs.Common.{◌≡◌, ℕ, false, not, eqb, ap, ◌∙◌, arith}
use Rattle.std.proofs.lemmas.List.{take_rest}
use Rattle.ui_forms.proofs.WordLemmas.{segment_from}
use Rattle.ui_forms.proofs.words.last_segment.Goals as goal
use Rattle.ui_forms.proofs.words.last_segment.Goals.{then-loop-start-test+else-path-start-ne47, else-loop-start-test}

slash : (b : ℕ) → b ≡ 47 → not (eqb b 47) ≡ false
slash b e = ap (λ x. not (eqb x 47)) e

pub returns : goal.returns
returns c =
    take_rest c.args.path.now c.loop-start.start
    ∙ segment_from c.args.path.now c.loop-start.start c.loop-start.invariant.0 c.loop-start.invariant.1
    (λ some. elim c.loop-start-test.branch [ then-loop-start-test+else-path-start-ne47 w ↦ slash _ w.if-path-start-ne47.false | else-loop-start-test w ↦ absurd (omega arith) ])
