use Rattle.std.proofs.Common.{Bool, Ok, subst}
use Rattle.ui_types.specs.Table.{tree, trees}
use Rattle.ui_satisfy.specs.Search.{EndsAs, compared}
use Rattle.ui_satisfy.proofs.Next.{is_comparable, isnt_comparable, past_comparable, not_asked}
use Rattle.ui_satisfy.proofs.satisfy.comparable_fits.Goals as goal

pub returns-then-not-is_asked-clause-answer : goal.returns-then-not-is_asked-clause-answer
returns-then-not-is_asked-clause-answer g c =
    let old = c.args.table.now in
    not_asked (g.E.Env.decls c.args.env.now old) (trees old c.args.bounds.now) (tree old c.args.t)
    c.args.is_asked c.if-not-is_asked.true

pub returns-in-Ok-true-clause-answer : goal.returns-in-Ok-true-clause-answer
returns-in-Ok-true-clause-answer g c =
    let old = c.args.table.now in
    let ds = g.E.Env.decls c.args.env.now old in
    let bs = trees old c.args.bounds.now in
    let t = tree old c.args.t in
    is_comparable ds bs t c.args.is_asked c.if-not-is_asked.false
    (subst (λ (b : Bool). EndsAs (compared ds bs t) (Ok b)) c.in-Ok-true.field-0-test
    c.in-Ok-true.ensures.answer)

pub returns-in-Ok-false-clause-answer : goal.returns-in-Ok-false-clause-answer
returns-in-Ok-false-clause-answer g c =
    let old = c.args.table.now in
    let ds = g.E.Env.decls c.args.env.now old in
    let bs = trees old c.args.bounds.now in
    let t = tree old c.args.t in
    isnt_comparable ds bs t c.args.is_asked c.if-not-is_asked.false
    (subst (λ (b : Bool). EndsAs (compared ds bs t) (Ok b)) c.in-Ok-false.field-0-test
    c.in-Ok-false.ensures.answer)

pub returns-in-Err-clause-answer : goal.returns-in-Err-clause-answer
returns-in-Err-clause-answer g c =
    let old = c.args.table.now in
    past_comparable (g.E.Env.decls c.args.env.now old) (trees old c.args.bounds.now)
    (tree old c.args.t) c.args.is_asked c.in-Err.fault
    c.if-not-is_asked.false c.in-Err.ensures.answer
