use Rattle.std.proofs.Common.{ℕ, suc, ap, add-one}
use Rattle.ui_syntax.specs.Exprs.{operations}
use Rattle.ui_pread.specs.Turns.{goes_on, operation_turn}
use Rattle.ui_syntax.specs.Read.{readers}
use Rattle.ui_ptype.specs.Seen.{see}
use Rattle.ui_pread.proofs.Loops.{at_end, at_fault, at_done, at_spent, at_more}
use Rattle.ui_pread.proofs.Expressions.{operations_end, operations_turn}
use Rattle.ui_pread.proofs.exprs.Exprs.operations.Goals as goal

pub returns : goal.returns
returns g c =
    let room = c.args.self.now.types.room in
    at_end see (goes_on room) (operation_turn room (readers room) c.args.site c.args.least) (operations room (readers room) c.args.site c.args.least) (operations_end room (readers room) c.args.site c.args.least) (operations_turn room (readers room) c.args.site c.args.least)
    _ c.loop-site.turns c.loop-site.left c.loop-site.words c.has_room.result c.loop-site.invariant c.has_room.ensures c.loop-site-test.false

pub returns-in-Ok-Done : goal.returns-in-Ok-Done
returns-in-Ok-Done g c =
    let room = c.args.self.now.types.room in
    at_done see (goes_on room) (operation_turn room (readers room) c.args.site c.args.least) (operations room (readers room) c.args.site c.args.least) (operations_end room (readers room) c.args.site c.args.least) (operations_turn room (readers room) c.args.site c.args.least)
    _ c.loop-site.turns c.loop-site.left c.loop-site.words c.has_room.result c.loop-site.invariant c.has_room.ensures c.in-Ok-Done.last c.operation.new.words c.in-Ok-Done.field-0 c.loop-site-test.true c.in-Ok-Done.ensures c.in-Ok-Done.field-0-is

pub returns-then-turns-eq0 : goal.returns-then-turns-eq0
returns-then-turns-eq0 g c =
    let room = c.args.self.now.types.room in
    at_spent see (goes_on room) (operation_turn room (readers room) c.args.site c.args.least) (operations room (readers room) c.args.site c.args.least) (operations_end room (readers room) c.args.site c.args.least) (operations_turn room (readers room) c.args.site c.args.least)
    _ c.loop-site.turns c.loop-site.left c.loop-site.words c.has_room.result c.loop-site.invariant c.has_room.ensures c.in-Ok-More.next c.operation.new.words c.in-Ok-More.field-0 c.loop-site-test.true c.in-Ok-More.ensures c.in-Ok-More.field-0-is c.if-turns-eq0.true

pub loop-site-preserved : goal.loop-site-preserved
loop-site-preserved g c =
    let room = c.args.self.now.types.room in
    at_more see (goes_on room) (operation_turn room (readers room) c.args.site c.args.least) (operations room (readers room) c.args.site c.args.least) (operations_end room (readers room) c.args.site c.args.least) (operations_turn room (readers room) c.args.site c.args.least)
    _ c.loop-site.turns c.loop-site.left c.loop-site.words c.has_room.result c.loop-site.invariant c.has_room.ensures c.in-Ok-More.next c.operation.new.words c.in-Ok-More.field-0 c.loop-site-test.true c.in-Ok-More.ensures c.in-Ok-More.field-0-is c.if-turns-eq0.false

pub returns-in-Err : goal.returns-in-Err
returns-in-Err g c =
    let room = c.args.self.now.types.room in
    at_fault see (goes_on room) (operation_turn room (readers room) c.args.site c.args.least) (operations room (readers room) c.args.site c.args.least) (operations_end room (readers room) c.args.site c.args.least) (operations_turn room (readers room) c.args.site c.args.least)
    _ c.loop-site.turns c.loop-site.left c.loop-site.words c.has_room.result c.loop-site.invariant c.has_room.ensures c.in-Err.fault c.operation.new.words c.loop-site-test.true c.in-Err.ensures

pub loop-site-init : goal.loop-site-init
loop-site-init g c =
    let room = c.args.self.now.types.room in
    ap (λ (n : ℕ). operations room (readers room) c.args.site c.args.least (suc n) (see c.args.left) c.args.words.now) (add-one room)
