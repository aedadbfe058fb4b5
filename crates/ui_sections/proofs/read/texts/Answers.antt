use Rattle.std.proofs.Common.{◌<◌, ◌++◌, ◌∷◌, [], length, sym, ◌∙◌, arith}
use Rattle.std.proofs.lemmas.List.{take_more}
use Rattle.ui_frame.specs.Container.{section}
use Rattle.ui_frame.specs.declared.section.Section.TheVariants.{Str}
use Rattle.ui_sections.proofs.read.texts.Goals as goal

pub texts-preserved : goal.texts-preserved
texts-preserved c =
    let list = section Str c.args.frame.now in
    let less : c.texts.k < length list =
    (let n = c.texts-test.true in let m = c.count-k-end.ensures in omega arith) in
    c.in_ok-push.ensures.items ∙ (λ i. c.texts.invariant i ++ c.in_ok-text.ensures i ∷ [])
    ∙ sym (take_more list c.texts.k [] less)
