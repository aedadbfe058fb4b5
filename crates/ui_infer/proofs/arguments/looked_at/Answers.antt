use Rattle.ui_types.specs.Table.{tree}
use Rattle.ui_infer.specs.Shown.{shown_actual, shown_bound}
use Rattle.ui_infer.proofs.LoopLemmas.{looked_at_ok, shown_bound-grows}
use Rattle.ui_infer.proofs.arguments.looked_at.Goals as goal

pub returns-in-Ok-noted-clause-answer : goal.returns-in-Ok-noted-clause-answer
returns-in-Ok-noted-clause-answer g c =
    let old = c.args.table.now in
    let new = c.topped.new.table in
    looked_at_ok (g.E.Env.decls c.args.env.now old) c.args.count (shown_actual old c.args.actual)
    (tree old c.args.formal)
    (shown_bound old c.args.bound.now) (shown_bound new c.noted.new.bound)
    (shown_bound new c.args.bound.now) (tree new c.in-Ok.both.0, tree new c.in-Ok.both.1)
    c.in-Ok.ensures.answer.1 c.in-Ok-noted.ensures.value
    (shown_bound-grows c.args.bound.now c.topped.ensures.kept.grows c.requires.bound)
