use Rattle.std.proofs.Common.{false}
use Rattle.ui_stmts.specs.Simple.{head}
use Rattle.ui_psimple.specs.Seen.{see_head}
use Rattle.ui_psimple.specs.MaybeLaws.{maybe_read}
use Rattle.ui_pstmt.proofs.switch.maybe_head.Goals as goal

pub returns : goal.returns
returns c = maybe_read see_head (head c.args.room false) c.args.words.now c.header_front-read.new.words c.header_front-read.result c.or_none.result c.or_none.new.words c.header_front-read.ensures
    (rw c.fork-start.ensures at c.or_none.ensures)
