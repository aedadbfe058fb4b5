use Rattle.std.proofs.Common.{sym, subst}
use Rattle.ui_types.specs.Table.{tree, trees}
use Rattle.ui_sets.specs.Needed.{Needs, Answers}
use Rattle.ui_sets.proofs.Lacking.{some_at}
use Rattle.ui_sets.proofs.implement.some_fit.Goals as goal

pub returns-clause-answer : goal.returns-clause-answer
returns-clause-answer g c =
    let e = some_at (g.E.Env.decls c.args.env.now c.args.table.now)
    (trees c.args.table.now c.args.bounds.now) (tree c.args.table.now c.args.t) c.args.table.now
    c.site_of.new.table c.in_ok-site.site c.args.methods.now c.site_of.ensures.kept.grows
    c.requires.sigs c.in_ok-site.ensures.answer.1 in
    subst (λ (w : Needs (Unit {0})). Answers w c.has_methods.result) (sym e)
    c.has_methods.ensures.answer
