use Rattle.std.proofs.Common.{length, ap, ◌∙◌}
use Rattle.ui_frame.specs.Container.{section}
use Rattle.ui_frame.specs.declared.section.Section.{Section}
use Rattle.ui_stray.proofs.Loops.{one_started}
use Rattle.ui_stray.proofs.links.starts.Goals as goal

pub loop-n-preserved : goal.loop-n-preserved
loop-n-preserved c =
    one_started c.args.frame.now c.loop-n.starts.items c.push.new.self.items c.loop-n.total
    c.count.result c.loop-n.n c.loop-n-test.true c.loop-n.invariant
    (c.count.ensures ∙ ap (λ (s : Section). length (section s c.args.frame.now))
    c.section_at.ensures)
    c.count.type_inv c.in_ok-push.ensures.items
