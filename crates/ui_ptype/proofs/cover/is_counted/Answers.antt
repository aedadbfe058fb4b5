use Rattle.std.proofs.Common.{sym}
use Rattle.ui_ptype.proofs.Covers.{counted_is, no_counted}
use Rattle.ui_ptype.proofs.cover.is_counted.Goals as goal

pub returns-in-Counted : goal.returns-in-Counted
returns-in-Counted c = sym (counted_is c.args.of.now _ _ c.in-Counted.is)

pub returns-in_default : goal.returns-in_default
returns-in_default c = sym (no_counted c.args.of.now c.in_default.not-Counted)
