use Rattle.std.proofs.Common.{arith, rules}
use Rattle.ui_types.specs.Table.{tree}
use Rattle.ui_sets.proofs.Declared.{own_named}
use Rattle.ui_sets.proofs.site.own_methods.Goals as goal

pub returns-in-Named-clause-answer : goal.returns-in-Named-clause-answer
returns-in-Named-clause-answer g c =
    let h = own_named (g.E.Env.decls c.args.env.now c.args.table.now) c.args.table.now
    c.in-Named.name c.in-Named.args (tree c.args.table.now c.args.t)
    (rw c.in-Named.is at c.node.ensures.value) in
    let a = c.name_methods.ensures.answer in let n = c.in_ok-name.ensures in let k =
    c.items-count.ensures in
    rw h (first_of (grind (arith, a, n, k), search (rules, a, n, k), assumption (a, n, k)))
