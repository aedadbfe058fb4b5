use Rattle.std.proofs.Common.{◌≡◌, suc, length}
use Rattle.ui_syntax.specs.Types.{empty}
use Rattle.ui_stmts.specs.Stmts.{stmt_readers, body_from}
use Rattle.ui_pstmt.specs.Seen.{see_stmts}
use Rattle.ui_pstmt.proofs.grammar.Statements.body.Given as goal

abbrev pub invariant-loop-last : goal.invariant-loop-last
invariant-loop-last g l =
    body_from l.self.room (stmt_readers l.self.room) (suc l.turns) (see_stmts l.all) l.words
    ≡ body_from l.self.room (stmt_readers l.self.room) (suc (length l.fn.words)) empty l.fn.words

abbrev pub decreases-loop-last : goal.decreases-loop-last
decreases-loop-last g l = l.turns
