use Rattle.std.proofs.Common.{true}
use Rattle.ui_ptype.specs.Seen.{see}
use Rattle.ui_syntax.specs.Read.{expr}
use Rattle.ui_psimple.specs.MaybeLaws.{maybe_read}
use Rattle.ui_pstmt.proofs.loops.maybe_expr.Goals as goal

pub returns : goal.returns
returns c = maybe_read see (expr c.args.room true) c.args.words.now c.expr_of_budget-read.new.words c.expr_of_budget-read.result c.or_none.result c.or_none.new.words c.expr_of_budget-read.ensures
    (rw c.fork-start.ensures at c.or_none.ensures)
