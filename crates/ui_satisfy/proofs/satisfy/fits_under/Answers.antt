use Rattle.std.proofs.Common.{List, Some, sym, ap, ◌∙◌, subst}
use Rattle.ui_types.specs.Ty.{Ty}
use Rattle.ui_types.specs.Table.{tree, trees}
use Rattle.ui_types.specs.Trees.{trees-grows}
use Rattle.ui_sets.specs.Needed.{Needs, Refuses, fault_of}
use Rattle.ui_sets.specs.Methods.{listed_fit}
use Rattle.ui_satisfy.specs.Satisfies.{fits_further}
use Rattle.ui_satisfy.proofs.Next.{known_ok, known_fault, next_ok, next_fault, ends_as}
use Rattle.ui_satisfy.proofs.satisfy.fits_under.Goals as goal

pub returns-in-Err-clause-answer : goal.returns-in-Err-clause-answer
returns-in-Err-clause-answer g c =
    let old = c.args.table.now in
    let ds = g.E.Env.decls c.args.env.now old in
    let bs = trees old c.args.bounds.now in
    let t = tree old c.args.t in
    let u = tree old c.args.under in
    let read = ap (λ (b : List Ty). listed_fit ds b t u) (ap (trees old) c.items.ensures) in
    next_fault (λ n. Some (listed_fit ds bs t u)) (λ n x. fits_further ds bs t u n) c.in-Err.fault
    (known_fault (listed_fit ds bs t u) c.in-Err.fault
    (subst (λ (m : Needs (Unit {0})). Refuses (fault_of m) c.in-Err.fault) read
    c.in-Err.ensures.answer))

pub returns-in-Ok-clause-answer : goal.returns-in-Ok-clause-answer
returns-in-Ok-clause-answer g c =
    let old = c.args.table.now in
    let ds = g.E.Env.decls c.args.env.now old in
    let bs = trees old c.args.bounds.now in
    let t = tree old c.args.t in
    let u = tree old c.args.under in
    let k = c.listed_fit.ensures.kept in
    let new = c.listed_fit.new.table in
    let read = ap (λ (b : List Ty). listed_fit ds b t u) (ap (trees old) c.items.ensures) in
    next_ok (λ n. Some (listed_fit ds bs t u)) (λ n x. fits_further ds bs t u n) tt
    c.fits_further.result
    (known_ok (listed_fit ds bs t u) tt (sym read ∙ c.in-Ok.ensures.answer))
    (ends_as
    (fits_further (g.E.Env.decls c.listed_fit.new.env new) (trees new c.args.bounds.now)
    (tree new c.args.t) (tree new c.args.under))
    (fits_further ds bs t u) c.fits_further.result
    (λ i. fits_further (k.same i) (trees-grows c.args.bounds.now k.grows c.requires.bounds i)
    (k.grows.keeps c.args.t c.requires.id i) (k.grows.keeps c.args.under c.requires.under i))
    c.fits_further.ensures.answer)
