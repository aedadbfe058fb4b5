use Rattle.std.proofs.Common.{Ok, ap, ◌∙◌}
use Rattle.ui_parse.proofs.Turns.{one_more}
use Rattle.ui_parse.proofs.list.parts.Goals as goal

pub loop-last-preserved : goal.loop-last-preserved
loop-last-preserved g c = λ r left h. c.loop-last.invariant r left
    (one_more c.args.separator c.args.close g.S.Ends.ending _ c.loop-last.turns c.loop-last.state c.in-Ok-More.more c.loop-last.cursor c.turn.new.cursor c.turn.result r left c.turn.ensures
    (c.in-Ok-More.is ∙ ap Ok c.in-Ok-More.field-0-is) c.if-turns-eq0.false h)
