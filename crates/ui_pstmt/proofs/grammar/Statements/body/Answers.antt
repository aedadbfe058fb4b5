use Rattle.ui_stmts.specs.Stmts.{stmt_readers}
use Rattle.ui_pstmt.proofs.Turning.{body_closed, body_spent, body_goes_on, body_fault}
use Rattle.ui_pstmt.proofs.grammar.Statements.body.Goals as goal

pub returns-in-Ok-Closed : goal.returns-in-Ok-Closed
returns-in-Ok-Closed g c =
    let room = c.args.self.now.room in
    body_closed room (stmt_readers room) c.args.spot c.args.words.now c.loop-last.turns c.loop-last.all c.loop-last.words c.body_turn.new.words c.loop-last.invariant
    c.in-Ok-Closed.field-0 c.in-Ok-Closed.last c.in-Ok-Closed.close c.block_of.result (rw c.in-Ok-Closed.is at c.body_turn.ensures) c.in-Ok-Closed.field-0-is c.block_of.ensures

pub returns-then-turns-eq0 : goal.returns-then-turns-eq0
returns-then-turns-eq0 g c =
    let room = c.args.self.now.room in
    body_spent room (stmt_readers room) c.args.spot c.args.words.now c.loop-last.turns c.loop-last.all c.loop-last.words c.body_turn.new.words c.loop-last.invariant
    c.in-Ok-More.field-0 c.in-Ok-More.next (rw c.in-Ok-More.is at c.body_turn.ensures) c.in-Ok-More.field-0-is c.if-turns-eq0.true

pub loop-last-preserved : goal.loop-last-preserved
loop-last-preserved g c =
    let room = c.args.self.now.room in
    body_goes_on room (stmt_readers room) c.args.spot c.args.words.now c.loop-last.turns c.loop-last.all c.loop-last.words c.body_turn.new.words c.loop-last.invariant
    c.in-Ok-More.field-0 c.in-Ok-More.next (rw c.in-Ok-More.is at c.body_turn.ensures) c.in-Ok-More.field-0-is c.if-turns-eq0.false

pub returns-in-Err : goal.returns-in-Err
returns-in-Err g c =
    let room = c.args.self.now.room in
    body_fault room (stmt_readers room) c.args.spot c.args.words.now c.loop-last.turns c.loop-last.all c.loop-last.words c.body_turn.new.words c.loop-last.invariant
    c.in-Err.fault (rw c.in-Err.is at c.body_turn.ensures)
