use Rattle.ui_stmts.specs.Stmts.{stmt_readers}
use Rattle.ui_pstmt.proofs.Turning.{clauses_done, clauses_spent, clauses_go_on, clauses_fault}
use Rattle.ui_pstmt.proofs.grammar.Statements.all_clauses.Goals as goal

pub returns-in-Ok-Done : goal.returns-in-Ok-Done
returns-in-Ok-Done g c =
    let room = c.args.self.now.room in
    clauses_done room (stmt_readers room) c.args.words.now c.loop-last.turns c.loop-last.clauses c.loop-last.words c.clause_turn.new.words c.loop-last.invariant
    c.in-Ok-Done.field-0 c.in-Ok-Done.last (rw c.in-Ok-Done.is at c.clause_turn.ensures) c.in-Ok-Done.field-0-is

pub returns-then-turns-eq0 : goal.returns-then-turns-eq0
returns-then-turns-eq0 g c =
    let room = c.args.self.now.room in
    clauses_spent room (stmt_readers room) c.args.words.now c.loop-last.turns c.loop-last.clauses c.loop-last.words c.clause_turn.new.words c.loop-last.invariant
    c.in-Ok-More.field-0 c.in-Ok-More.next (rw c.in-Ok-More.is at c.clause_turn.ensures) c.in-Ok-More.field-0-is c.if-turns-eq0.true

pub loop-last-preserved : goal.loop-last-preserved
loop-last-preserved g c =
    let room = c.args.self.now.room in
    clauses_go_on room (stmt_readers room) c.args.words.now c.loop-last.turns c.loop-last.clauses c.loop-last.words c.clause_turn.new.words c.loop-last.invariant
    c.in-Ok-More.field-0 c.in-Ok-More.next (rw c.in-Ok-More.is at c.clause_turn.ensures) c.in-Ok-More.field-0-is c.if-turns-eq0.false

pub returns-in-Err : goal.returns-in-Err
returns-in-Err g c =
    let room = c.args.self.now.room in
    clauses_fault room (stmt_readers room) c.args.words.now c.loop-last.turns c.loop-last.clauses c.loop-last.words c.clause_turn.new.words c.loop-last.invariant
    c.in-Err.fault (rw c.in-Err.is at c.clause_turn.ensures)
