use Rattle.std.proofs.Common.{List, map, ap, sym, ◌∙◌, subst}
use Rattle.std.proofs.lemmas.List.Elements.{All-map}
use Rattle.ui_types.specs.declared.part.Term.{Term}
use Rattle.ui_types.specs.Table.{IsId, AreIds, trees}
use Rattle.ui_terms.specs.Terms.{TermTree}
use Rattle.ui_satisfy.proofs.Shapes.{types_shown}
use Rattle.ui_satisfy.proofs.shape.term_types.Goals as goal

pub returns-clause-valid : goal.returns-clause-valid
returns-clause-valid c =
    let table = c.args.table.now in
    let e = c.new.ensures ∙ c.in_ok-types_of.ensures ∙ ap (map (λ (t : Term). t.ty)) c.items.ensures
    in
    subst (AreIds table) (sym e) (All-map (IsId table) (λ (t : Term). t.ty) c.in_ok-terms.terms
    c.in_ok-terms.ensures.valid)

pub returns-clause-answer : goal.returns-clause-answer
returns-clause-answer c =
    let table = c.args.table.now in
    let e = c.new.ensures ∙ c.in_ok-types_of.ensures ∙ ap (map (λ (t : Term). t.ty)) c.items.ensures
    in
    ap (trees table) e ∙ types_shown table c.in_ok-terms.terms
    ∙ ap (map (λ (w : TermTree). w.ty)) c.in_ok-terms.ensures.answer
