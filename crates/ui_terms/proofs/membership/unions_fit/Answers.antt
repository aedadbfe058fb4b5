use Rattle.std.proofs.Common.{arith, ap, sym, subst, ◌∙◌}
use Rattle.ui_types.specs.Table.{tree, trees}
use Rattle.ui_types.specs.Trees.{trees-grows}
use Rattle.ui_sets.specs.Needed.{Needs, Answers}
use Rattle.ui_terms.specs.Reading.{shown_unions}
use Rattle.ui_terms.proofs.Inside.{unions_some, unions_at}
use Rattle.ui_terms.proofs.membership.unions_fit.Goals as goal

pub returns-clause-answer : goal.returns-clause-answer
returns-clause-answer g c =
    let old = c.args.table.now in
    let new = c.own_of.new.table in
    let p = c.if-is_empty.false in
    let q = c.is_empty.ensures in
    let k = c.own_of.ensures.kept in
    let whole = unions_some (g.E.Env.decls c.args.env.now old) (trees old c.args.bounds.now)
    (tree old c.args.t) old c.args.unions.now
    (shown_unions new c.in_ok-own.own) (grind arith) c.in_ok-own.ensures.answer.1 in
    let same = unions_at k.same (ap (shown_unions new) c.items.ensures)
    (trees-grows c.args.unions.now k.grows c.requires.unions) in
    subst (λ (m : Needs (Unit {0})). Answers m c.in_unions.result) (same ∙ sym whole)
    c.in_unions.ensures.answer
