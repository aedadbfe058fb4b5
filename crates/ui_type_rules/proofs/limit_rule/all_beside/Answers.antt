use Rattle.std.proofs.Common.{◌≡◌, ◌∙◌, ◌<◌, ◌≤◌, ◌+◌, max, take, sym, ap, arith}
use Rattle.ui_file.specs.Rules as rules
use Rattle.ui_type_rules.proofs.Extents.{turn_size, turn_depth, stops_big, stops_deep}
use Rattle.ui_type_rules.proofs.limit_rule.all_beside.Goals.{then-extent-depth, else-extent-depth}
use Rattle.ui_type_rules.proofs.limit_rule.all_beside.Goals as goal

pub returns-then-extent-size : goal.returns-then-extent-size
returns-then-extent-size c =
    stops_big c.args.done.now c.args.parts.now c.loop-part.part-index _ c.used_extent-extent.result
    c.loop-part-test.true c.used_extent-extent.ensures c.loop-part.size
    c.loop-part.invariant.size c.loop-part.invariant.small c.if-extent-size.true

pub returns-then-extent-gt-DEPTH_LIMIT : goal.returns-then-extent-gt-DEPTH_LIMIT
returns-then-extent-gt-DEPTH_LIMIT c =
    stops_deep c.args.done.now c.args.parts.now c.loop-part.part-index _ c.used_extent-extent.result
    c.loop-part-test.true c.used_extent-extent.ensures c.if-extent-gt-DEPTH_LIMIT.true

pub loop-part-preserved : goal.loop-part-preserved
loop-part-preserved c =
    let i = c.loop-part.invariant in
    let size = turn_size c.args.done.now c.args.parts.now c.loop-part.part-index _
    c.used_extent-extent.result c.loop-part-test.true c.used_extent-extent.ensures in
    let depth = turn_depth c.args.done.now c.args.parts.now c.loop-part.part-index _
    c.used_extent-extent.result c.loop-part-test.true c.used_extent-extent.ensures in
    let most : c.if-extent-depth.depth ≡ max c.loop-part.depth c.used_extent-extent.result.depth
    = elim c.if-extent-depth.branch [
      | then-extent-depth w ↦ omega (arith, w.if-extent-depth, w.depth-is)
      | else-extent-depth w ↦ omega (arith, w.if-extent-depth, w.depth-is)
    ] in
    record {
      size = omega (arith, size, i.size);
      depth = omega (arith, depth, i.depth, most);
      small = omega (arith, i.small, c.if-extent-size.false);
      shallow = omega (arith, i.shallow, most, c.if-extent-gt-DEPTH_LIMIT.false);
    }
