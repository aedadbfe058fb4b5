use Rattle.std.proofs.Common.{◌∙◌, ap}
use Rattle.ui_strpos.specs.Items.{Written, written}
use Rattle.ui_strpos.specs.Lists.{put_step}
use Rattle.ui_strpos.proofs.fields.put_times.Goals as goal

pub loop-item-preserved : goal.loop-item-preserved
loop-item-preserved g c =
    let f = g.T.Fields.form in
    c.in_ok-put.ensures ∙ ap (λ (w : Written). written w (f.items c.item-item.result)) c.loop-item.invariant
    ∙ put_step f c.args.out.now c.args.list.now c.loop-item.item-index c.item-item.result c.loop-item-test.true c.item-item.is
