use Rattle.std.proofs.Common.{◌≡◌, length, replicate, rules}
use Rattle.ui_types.specs.Nodes.{ids_of, node_with}
use Rattle.ui_types.specs.Table.{tree}
use Rattle.ui_infer.proofs.ShapeLemmas.{IsHollow, hollow_node, hollow_valid, hollow_value}
use Rattle.ui_infer.proofs.shape.hollow.Goals as goal

made : (c : goal.After-drop-ids-2) → IsHollow c.args.table.now (tree c.args.table.now c.args.t)
    c.args.z (node_with c.node-node.result.now c.as_slice.result.now)
made c =
    let e : c.as_slice.result.now ≡ replicate (length (ids_of c.node-node.result.now)) c.args.z =
    search rules in
    hollow_node c.args.table.now _ c.args.z c.node-node.result.now c.as_slice.result.now
    c.node-node.ensures.value c.requires.z e

pub returns-clause-valid : goal.returns-clause-valid
returns-clause-valid c = hollow_valid c.args.table.now _ c.args.z _ c.with_ids.result (made c)
    c.with_ids.ensures

pub returns-clause-value : goal.returns-clause-value
returns-clause-value c = hollow_value c.args.table.now _ c.args.z _ c.with_ids.result (made c)
    c.with_ids.ensures
