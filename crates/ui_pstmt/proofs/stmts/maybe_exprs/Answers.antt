use Rattle.std.proofs.Common.{false}
use Rattle.ui_ptype.specs.Seen.{see_all}
use Rattle.ui_stmts.specs.Common.{exprs}
use Rattle.ui_psimple.specs.MaybeLaws.{maybe_read}
use Rattle.ui_pstmt.proofs.stmts.maybe_exprs.Goals as goal

pub returns : goal.returns
returns c = maybe_read see_all (exprs c.args.room false) c.args.words.now c.exprs-read.new.words c.exprs-read.result c.or_none.result c.or_none.new.words c.exprs-read.ensures
    (rw c.fork-start.ensures at c.or_none.ensures)
