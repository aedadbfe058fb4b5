use Rattle.std.proofs.Common.{Bool, Ok, Err, Some, ap, subst}
use Rattle.ui_types.specs.Ty.{Ty, list_of}
use Rattle.ui_types.specs.Table.{tree, trees}
use Rattle.ui_types.specs.Trees.{trees-grows}
use Rattle.ui_sets.specs.Needed.{Needs, Answers}
use Rattle.ui_terms.specs.Terms.{unions_fit, unions_of}
use Rattle.ui_satisfy.specs.Comparable.{asks_comparable}
use Rattle.ui_satisfy.specs.Satisfies.{comparable_fits}
use Rattle.ui_satisfy.proofs.Next.{known, next_ok, next_fault, ends_as}
use Rattle.ui_satisfy.proofs.satisfy.fits_further.Goals as goal

pub returns-in-Err-clause-answer : goal.returns-in-Err-clause-answer
returns-in-Err-clause-answer g c =
    let old = c.args.table.now in
    let ds = g.E.Env.decls c.args.env.now old in
    let bs = trees old c.args.bounds.now in
    let t = tree old c.args.t in
    let u = tree old c.args.under in
    next_fault (comparable_fits ds bs t (asks_comparable u))
    (λ n x. Some (unions_fit ds bs t (list_of (unions_of u)))) c.in-Err.fault
    (ends_as (comparable_fits ds bs t c.asks_comparable-is_asked.result)
    (comparable_fits ds bs t (asks_comparable u)) (Err c.in-Err.fault)
    (ap (λ (b : Bool). comparable_fits ds bs t b) c.asks_comparable-is_asked.ensures)
    c.in-Err.ensures.answer)

pub returns-in-Ok-clause-answer : goal.returns-in-Ok-clause-answer
returns-in-Ok-clause-answer g c =
    let old = c.args.table.now in
    let ds = g.E.Env.decls c.args.env.now old in
    let bs = trees old c.args.bounds.now in
    let t = tree old c.args.t in
    let u = tree old c.args.under in
    let k = c.comparable_fits.ensures.kept in
    let new = c.comparable_fits.new.table in
    let unions = unions_fit ds bs t (list_of (unions_of u)) in
    next_ok (comparable_fits ds bs t (asks_comparable u)) (λ n x. Some unions) tt
    c.unions_of_fit.result
    (ends_as (comparable_fits ds bs t c.asks_comparable-is_asked.result)
    (comparable_fits ds bs t (asks_comparable u)) (Ok tt)
    (ap (λ (b : Bool). comparable_fits ds bs t b) c.asks_comparable-is_asked.ensures)
    c.in-Ok.ensures.answer)
    (known unions c.unions_of_fit.result
    (subst (λ (m : Needs (Unit {0})). Answers m c.unions_of_fit.result)
    (λ i. unions_fit (k.same i) (trees-grows c.args.bounds.now k.grows c.requires.bounds i)
    (k.grows.keeps c.args.t c.requires.id i) (list_of
    (unions_of (k.grows.keeps c.args.under c.requires.under i))))
    c.unions_of_fit.ensures.answer))
