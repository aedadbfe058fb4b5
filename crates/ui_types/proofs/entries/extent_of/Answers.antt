use Rattle.std.proofs.Common.{◌≡◌, arith, rules, sym, subst as transport}
use Rattle.ui_types.specs.Table.{AreIds}
use Rattle.ui_types.specs.Nodes.{ids_of}
use Rattle.ui_types.specs.Entries.{trees_of}
use Rattle.ui_types.proofs.NodeLemmas.{AreIds-ids_of, size-shown, depth-shown}
use Rattle.ui_types.proofs.entries.extent_of.Goals as goal

pub parts_extent-parts-requires-clause-valid : goal.parts_extent-parts-requires-clause-valid
parts_extent-parts-requires-clause-valid c =
    let table = trees_of c.args.entries.now.entries in
    let e : c.as_slice.result.now ≡ ids_of c.args.node.now = search rules in
    transport (AreIds table) (sym e) (AreIds-ids_of table c.args.node.now c.requires.valid)

pub returns : goal.returns
returns c =
    let table = trees_of c.args.entries.now.entries in
    let e : c.as_slice.result.now ≡ ids_of c.args.node.now = search rules in
    let s = rw e at c.parts_extent-parts.ensures.size in
    let d = rw e at c.parts_extent-parts.ensures.depth in
    let p = size-shown table c.args.node.now in
    let q = depth-shown table c.args.node.now in
    record { size_is = omega (arith, s, p); depth_is = omega (arith, d, q) }
