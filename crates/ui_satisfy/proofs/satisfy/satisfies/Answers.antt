use Rattle.std.proofs.Common.{Some}
use Rattle.ui_types.specs.Table.{tree, trees}
use Rattle.ui_types.specs.Trees.{trees-grows}
use Rattle.ui_sets.specs.Needed.{needed}
use Rattle.ui_satisfy.specs.Satisfies.{fits_under}
use Rattle.ui_satisfy.proofs.Next.{known_ok, next_ok, ends_as}
use Rattle.ui_satisfy.proofs.satisfy.satisfies.Goals as goal

pub returns-in-Ok-clause-answer : goal.returns-in-Ok-clause-answer
returns-in-Ok-clause-answer g c =
    let old = c.args.table.now in
    let ds = g.E.Env.decls c.args.env.now old in
    let bs = trees old c.args.bounds.now in
    let t = tree old c.args.t in
    let k = c.needed.ensures.kept in
    let new = c.needed.new.table in
    let u = tree new c.in-Ok.under in
    next_ok (λ n. Some (needed ds (tree old c.args.bound))) (fits_under ds bs t) u
    c.fits_under.result
    (known_ok (needed ds (tree old c.args.bound)) u c.in-Ok.ensures.answer.1)
    (ends_as
    (λ n. fits_under (g.E.Env.decls c.needed.new.env new) (trees new c.args.bounds.now)
    (tree new c.args.t) n u)
    (λ n. fits_under ds bs t n u) c.fits_under.result
    (λ i n. fits_under (k.same i) (trees-grows c.args.bounds.now k.grows c.requires.bounds i)
    (k.grows.keeps c.args.t c.requires.id i) n u)
    c.fits_under.ensures.answer)
