use Rattle.std.proofs.Common.{◌<◌, length, rules}
use Rattle.ui_types.proofs.PartLemmas.{with_types_step}
use Rattle.ui_types.proofs.part.parts_with.Goals as goal

pub loop-k-preserved : goal.loop-k-preserved
loop-k-preserved g c =
    let h : c.loop-k.k < length c.args.parts.now = search rules in
    let k : c.loop-k.k < length c.args.ids.now = search rules in
    let step = with_types_step g.P.Part.with_type c.args.parts.now c.args.ids.now c.loop-k.k c.index-parts-k.result (record { 0 = 0 }) h k c.index-parts-k.is in
    rw step (search rules)
