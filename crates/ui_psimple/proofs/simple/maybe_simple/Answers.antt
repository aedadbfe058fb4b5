use Rattle.std.proofs.Common.{◌-◌, true}
use Rattle.ui_stmts.specs.Simple.{simple}
use Rattle.ui_psimple.specs.Seen.{see_stmt}
use Rattle.ui_psimple.specs.MaybeLaws.{maybe_read}
use Rattle.ui_psimple.proofs.Budgets.{maybe_simple_some, maybe_simple_none}
use Rattle.ui_psimple.proofs.simple.maybe_simple.Goals as goal

pub returns-then-budget-eq0 : goal.returns-then-budget-eq0
returns-then-budget-eq0 c = maybe_simple_none c.args.budget c.args.words.now c.if-budget-eq0.true

pub returns : goal.returns
returns c = maybe_simple_some c.args.budget c.args.words.now c.or_none.result c.or_none.new.words c.if-budget-eq0.false
    (maybe_read see_stmt (simple (c.args.budget - 1) true) c.args.words.now c.simple_stmt-read.new.words c.simple_stmt-read.result c.or_none.result c.or_none.new.words c.simple_stmt-read.ensures
    (rw c.fork-start.ensures at c.or_none.ensures))
