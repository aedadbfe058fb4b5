use Rattle.std.proofs.Common.{List, ℕ, ◌++◌, ap, ◌∙◌}
use Rattle.ui_frame.specs.declared.section.Section.{Section}
use Rattle.ui_stray.specs.Links.{section_links}
use Rattle.ui_stray.proofs.Loops.{more_linked}
use Rattle.ui_stray.proofs.links.all_links.Goals as goal

pub loop-n-preserved : goal.loop-n-preserved
loop-n-preserved c =
    more_linked c.args.frame.now c.args.starts.now c.loop-n.links.items
    c.put_section.new.links.items c.loop-n.n c.loop-n-test.true c.loop-n.invariant
    (c.in_ok-put_section.ensures ∙ ap (λ (s : Section). c.loop-n.links.items
    ++ section_links c.args.starts.now c.args.frame.now s) c.section_at.ensures)
