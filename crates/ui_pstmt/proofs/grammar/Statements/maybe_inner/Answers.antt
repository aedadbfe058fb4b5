use Rattle.ui_stmts.specs.Stmts.{stmt_readers}
use Rattle.ui_psimple.specs.Seen.{see_stmt}
use Rattle.ui_psimple.specs.MaybeLaws.{maybe_read}
use Rattle.ui_pstmt.proofs.grammar.Statements.maybe_inner.Goals as goal

pub returns : goal.returns
returns g c = maybe_read see_stmt (stmt_readers c.args.self.now.room).stmt c.args.words.now c.inner-read.new.words c.inner-read.result c.or_none.result c.or_none.new.words c.inner-read.ensures
    (rw c.fork-start.ensures at c.or_none.ensures)
