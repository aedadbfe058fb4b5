use Rattle.std.proofs.Common.{◌≡◌, suc, length}
use Rattle.ui_stmts.specs.Stmts.{stmt_readers, no_clauses, clauses_from}
use Rattle.ui_pstmt.specs.Seen.{see_clauses}
use Rattle.ui_pstmt.proofs.grammar.Statements.all_clauses.Given as goal

abbrev pub invariant-loop-last : goal.invariant-loop-last
invariant-loop-last g l =
    clauses_from l.self.room (stmt_readers l.self.room) (suc l.turns) (see_clauses l.clauses) l.words
    ≡ clauses_from l.self.room (stmt_readers l.self.room) (suc (length l.fn.words)) no_clauses l.fn.words

abbrev pub decreases-loop-last : goal.decreases-loop-last
decreases-loop-last g l = l.turns
