use Rattle.std.proofs.Common.{List, map, ap, sym, ◌∙◌, subst}
use Rattle.std.proofs.lemmas.List.Elements.{All-map}
use Rattle.ui_types.specs.declared.part.Field.{Field}
use Rattle.ui_types.specs.Table.{IsId, AreIds, tree, trees}
use Rattle.ui_satisfy.proofs.Shapes.{parts_shown}
use Rattle.ui_satisfy.proofs.shape.parts_of.Goals as goal

pub returns-in_ok-types_of-in-Struct-clause-valid :
    goal.returns-in_ok-types_of-in-Struct-clause-valid
returns-in_ok-types_of-in-Struct-clause-valid c =
    let table = c.args.table.now in
    let e = c.new.ensures ∙ c.in_ok-types_of-in-Struct.ensures
    ∙ ap (map (λ (f : Field). f.ty)) c.items.ensures in
    subst (AreIds table) (sym e)
    (All-map (IsId table) (λ (f : Field). f.ty) c.in-Struct.fields
    (rw c.in-Struct.is at c.node.ensures.valid))

pub returns-in_ok-types_of-in-Struct-clause-answer :
    goal.returns-in_ok-types_of-in-Struct-clause-answer
returns-in_ok-types_of-in-Struct-clause-answer c =
    let table = c.args.table.now in
    let e = c.new.ensures ∙ c.in_ok-types_of-in-Struct.ensures
    ∙ ap (map (λ (f : Field). f.ty)) c.items.ensures in
    ap (trees table) e
    ∙ parts_shown table c.in-Struct.fields (tree table c.args.under)
    (rw c.in-Struct.is at c.node.ensures.value)
