use Rattle.ui_types.specs.Table.{Table, IsId, Grows}
use Rattle.ui_types.specs.Trees.{Grows-trans, IsId-grows}
use Rattle.ui_set_tests.proofs.DeclSteps.{AreDecls-grows}
use Rattle.ui_set_tests.proofs.satisfaction.declare_row.Goals as goal

pub returns-clause-made : goal.returns-clause-made
returns-clause-made c =
    let t : Table = c.signature.new.table in
    let from_under : Grows c.spelled.new.table t =
    Grows-trans c.in_ok-bound.ensures.grows c.in_ok-sig.ensures.grows in
    let whole : Grows c.args.table.now t =
    Grows-trans c.in_ok-under.ensures.grows from_under in
    let bound : IsId t c.in_ok-bound.bound =
    IsId-grows c.in_ok-bound.bound c.in_ok-sig.ensures.grows c.in_ok-bound.ensures.id in
    let under : IsId t c.in_ok-under.under =
    IsId-grows c.in_ok-under.under from_under c.in_ok-under.ensures.id in
    c.in_ok-declare.ensures t (AreDecls-grows c.args.decls.now.items whole c.requires)
    (c.in_ok-params.ensures t bound) under
    (c.in_ok-methods.ensures t c.in_ok-sig.ensures.made)
