use Rattle.std.proofs.Common.{ap, ◌∙◌, sym}
use Rattle.ui_frame.specs.Container.{joined}
use Rattle.ui_frame.proofs.Growing.{joined-whole}
use Rattle.ui_frame.proofs.section_out.SectionOut.contents.Goals as goal

pub returns : goal.returns
returns c =
    let s = c.self.inside in
    c.deref.ensures.value ∙ sym (joined-whole s.ends.items s.bytes.items c.self.invariant.0 c.self.invariant.1) ∙ ap joined c.self.view_is
