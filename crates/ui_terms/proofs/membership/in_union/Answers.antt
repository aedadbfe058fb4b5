use Rattle.std.proofs.Common.{ap, ◌∙◌}
use Rattle.ui_types.specs.Table.{tree}
use Rattle.ui_terms.specs.Terms.{is_one_taken}
use Rattle.ui_terms.specs.Reading.{shown_terms, shown_unions}
use Rattle.ui_terms.specs.Loops.{shown_unions-grow}
use Rattle.ui_terms.proofs.Inside.{union_is}
use Rattle.ui_terms.proofs.membership.in_union.Goals as goal

pub returns-clause-answer : goal.returns-clause-answer
returns-clause-answer g c =
    let old = c.args.table.now in
    let new = c.all_asked.new.table in
    let own = c.args.own.now in
    union_is (g.E.Env.decls c.args.env.now old) (shown_unions old own) (tree old c.args.union)
    (shown_terms old c.items.result.now) (shown_terms new c.in_ok-terms-2.terms)
    c.is_one_taken.result
    (ap (shown_terms old) c.items.ensures ∙ c.in_ok-terms.ensures.answer)
    c.in_ok-terms-2.ensures.answer.1
    (c.is_one_taken.ensures ∙ (λ i. is_one_taken (shown_terms new (c.items-2.ensures i))
    (shown_unions-grow own c.all_asked.ensures.kept.grows c.requires.own i)))
