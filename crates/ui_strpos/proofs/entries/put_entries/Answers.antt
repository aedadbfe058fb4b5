use Rattle.std.proofs.Common.{ap, ◌∙◌, length}
use Rattle.ui_strpos.specs.Items.{Written, with_item, written, UInt}
use Rattle.ui_strpos.specs.EntryLists.{put_step}
use Rattle.ui_strpos.proofs.entries.put_entries.Goals as goal

pub loop-entry-preserved : goal.loop-entry-preserved
loop-entry-preserved g c =
    let f = g.T.ListEntry.form in
    put_step f (with_item c.args.out.now (UInt (length c.args.list.now))) c.put.new.out c.args.list.now c.loop-entry.entry-index c.entry-item.result c.loop-entry-test.true c.entry-item.is
    (λ before. c.in_ok-put.ensures before ∙ ap (λ (w : Written). written w ((f before).items c.entry-item.result)) c.loop-entry.invariant)
