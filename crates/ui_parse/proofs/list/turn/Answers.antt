use Rattle.std.proofs.Common.{sym, ◌∙◌}
use Rattle.ui_parse.proofs.Turns.{turn_none, turn_open}
use Rattle.ui_parse.proofs.list.turn.Goals as goal

pub returns-then-not-may_end : goal.returns-then-not-may_end
returns-then-not-may_end g c = turn_open _ _ _ _ _ _ _ _ (sym c.may_end.ensures ∙ c.if-not-may_end.true) c.part.ensures

pub returns-in-None : goal.returns-in-None
returns-in-None g c = turn_none c.args.separator c.args.close _ _ c.args.state c.args.cursor.now _ _ c.take.new.self (sym c.take.ensures.found ∙ c.in-None.is) c.in-None.ensures.left c.part-in-None.ensures
