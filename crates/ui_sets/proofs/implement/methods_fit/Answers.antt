use Rattle.std.proofs.Common.{arith}
use Rattle.ui_types.specs.Table.{tree, trees, parts_by}
use Rattle.ui_sets.proofs.Lacking.{fit_some}
use Rattle.ui_sets.proofs.implement.methods_fit.Goals as goal

pub returns-clause-answer : goal.returns-clause-answer
returns-clause-answer g c =
    let p = c.if-is_empty.false in let q = c.is_empty.ensures in
    rw (fit_some (g.E.Env.decls c.args.env.now c.args.table.now)
    (trees c.args.table.now c.args.bounds.now) (tree c.args.table.now c.args.t)
    c.args.methods.now (parts_by (λ m. m.sig) c.args.table.now c.args.methods.now)
    (grind arith)) c.some_fit.ensures.answer
