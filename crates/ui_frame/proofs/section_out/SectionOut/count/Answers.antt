use Rattle.std.proofs.Common.{ap, length, ◌∙◌, sym}
use Rattle.ui_frame.proofs.Pieces.{length-cut}
use Rattle.ui_frame.proofs.section_out.SectionOut.count.Goals as goal

pub returns : goal.returns
returns c =
    let s = c.self.inside in
    c.len.ensures ∙ s.ends.ok.0 ∙ sym (length-cut 0 s.ends.items s.bytes.items) ∙ ap length c.self.view_is
