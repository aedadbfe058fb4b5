use Rattle.std.proofs.Common.{◌∙◌}
use Rattle.ui_stray.proofs.Marks.{links_fit, marks_told}
use Rattle.ui_stray.proofs.find.marks.Goals as goal

pub reached-requires-clause-links : goal.reached-requires-clause-links
reached-requires-clause-links c = λ k.
    links_fit c.args.frame.now c.args.starts.now c.requires.started c.in_ok-links.links.items
    c.in_ok-links.ensures c.deref.result.now c.deref.ensures.value c.deref-2.result.now
    (c.deref-2.ensures.value ∙ c.in_ok-roots.ensures) c.requires.spelled.0 c.requires.spelled.1 k

pub returns-clause-reached : goal.returns-clause-reached
returns-clause-reached c =
    marks_told c.args.frame.now c.args.starts.now c.requires.started c.in_ok-links.links.items
    c.in_ok-links.ensures c.deref.result.now c.deref.ensures.value c.deref-2.result.now
    (c.deref-2.ensures.value ∙ c.in_ok-roots.ensures) c.reached.result c.reached.ensures.reached
    c.reached.ensures.all
