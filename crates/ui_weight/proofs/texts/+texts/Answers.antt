use Rattle.std.proofs.Common.{◌≡◌, ◌∙◌, ◌+◌, ◌≤◌, List, get_or, sym, ap, arith, rules, subst}
use Rattle.ui_types.specs.declared.id.TypeId.{TypeId}
use Rattle.ui_types.specs.Ty.{size, sizes}
use Rattle.ui_types.specs.Table.{AreIds, tree, parts}
use Rattle.ui_types.specs.Nodes.{ids_of}
use Rattle.ui_types.specs.Trees.{size_of_part}
use Rattle.ui_types.proofs.NodeLemmas.{AreIds-ids_of, size-shown}
use Rattle.ui_weight.specs.Weight.{texts}
use Rattle.ui_weight.specs.Parts.{own_texts, texts_by}
use Rattle.ui_weight.proofs.Sums.{texts_shown}
use Rattle.ui_weight.proofs.texts.+texts.Goals as goal

pub counted_anew-texts_of_all-requires : goal.counted_anew-texts_of_all-requires
counted_anew-texts_of_all-requires t c =
    let table = c.args.table.now in
    let node = c.node-node.result.now in
    let ids_are : c.as_slice.result.now ≡ ids_of node = search rules in
    let size_is : size (tree table c.args.t) ≡ 1 + sizes (parts table (ids_of node))
    = ap size (sym c.node-node.ensures.value) ∙ size-shown table node in
    let fewer : sizes (parts table c.as_slice.result.now) ≡ sizes (parts table (ids_of node))
    = ap (λ (is : List TypeId). sizes (parts table is)) ids_are in
    let valid : AreIds table c.as_slice.result.now
    = subst (AreIds table) (sym ids_are)
    (AreIds-ids_of table node c.node-node.ensures.valid) in
    (omega (arith, c.decreases, size_is, fewer), (valid, c.requires.memo))

pub counted_anew-returns-clause-count : goal.counted_anew-returns-clause-count
counted_anew-returns-clause-count t c =
    let table = c.args.table.now in
    let node = c.node-node.result.now in
    let ids_are : c.as_slice.result.now ≡ ids_of node = search rules in
    let whole : texts (tree table c.args.t) ≡ own_texts node + texts_by table c.as_slice.result.now
    = ap texts (sym c.node-node.ensures.value) ∙ texts_shown table node
    ∙ ap (λ (is : List TypeId). own_texts node + texts_by table is) (sym ids_are) in
    omega (
      arith,
      whole,
      c.own_bytes-own.ensures,
      c.in_ok-parts.ensures.count,
      c.saturating_add.ensures,
    )

pub texts_of_all-texts_in-requires : goal.texts_of_all-texts_in-requires
texts_of_all-texts_in-requires t c =
    let d : TypeId = record { 0 = 0 } in
    let table = c.args.table.now in
    let ids = c.args.ids.now in
    let k = c.loop-id.id-index in
    let small : size (tree table (get_or ids k d)) ≤ sizes (parts table ids)
    = size_of_part table ids k d c.loop-id-test.true in (
      omega (arith, c.decreases, small),
      (
        c.requires.ids k d c.loop-id-test.true,
        c.loop-id.invariant.memo,
      ),
    )
