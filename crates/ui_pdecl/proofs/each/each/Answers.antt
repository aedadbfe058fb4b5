use Rattle.std.proofs.Common.{ℕ, suc, List, length, ap, ◌∙◌}
use Rattle.std.proofs.lemmas.Result.{err_from_is_err_and}
use Rattle.ui_stmts.specs.Decls.{each}
use Rattle.ui_pdecl.proofs.PartTurns.{go, begins, at_fault, at_end, no_semicolon, at_spent, at_more}
use Rattle.ui_pdecl.proofs.each.each.Goals as goal

pub loop-all-init : goal.loop-all-init
loop-all-init g c = λ room.
    let see = g.R.PartReader.see in
    let read = g.R.PartReader.reader c.args.reader.now in
    let ws = c.args.words.now in
    ap (λ (n : ℕ). go see read room (suc n) c.new-all.result ws) c.left-turns.ensures ∙ ap (λ (l : List _). go see read room (suc (length ws)) l ws) c.new-all.ensures ∙ begins see read room ws

pub returns-in_err-part : goal.returns-in_err-part
returns-in_err-part g c = λ room.
    let see = g.R.PartReader.see in
    let read = g.R.PartReader.reader c.args.reader.now in
    let p = err_from_is_err_and c.from_residual.result c.from_residual.ensures.1 in
    rw (p.1, p.2) (at_fault see read room (each room read c.args.words.now) c.loop-all.turns c.loop-all.all c.loop-all.words c.read.new.words (c.loop-all.invariant room) _ c.in_err-part.ensures)

pub returns-in_err-expect : goal.returns-in_err-expect
returns-in_err-expect g c = λ room.
    let see = g.R.PartReader.see in
    let read = g.R.PartReader.reader c.args.reader.now in
    let p = err_from_is_err_and c.from_residual-in_err-expect.result c.from_residual-in_err-expect.ensures.1 in
    rw (p.1, p.2) (no_semicolon see read room (each room read c.args.words.now) c.loop-all.turns c.loop-all.all c.loop-all.words c.read.new.words (c.loop-all.invariant room)
    c.in-Some.part c.in_ok-part.field-0 c.in-Some.is c.in_ok-part.ensures _ c.expect.new.self c.in_err-expect.ensures)

pub returns-then-turns-eq0 : goal.returns-then-turns-eq0
returns-then-turns-eq0 g c = λ room.
    let see = g.R.PartReader.see in
    let read = g.R.PartReader.reader c.args.reader.now in
    at_spent see read room (each room read c.args.words.now) c.loop-all.turns c.loop-all.all c.loop-all.words c.read.new.words (c.loop-all.invariant room)
    c.in-Some.part c.in_ok-part.field-0 c.in-Some.is c.in_ok-part.ensures c.in_ok-expect.field-0 c.expect.new.self c.push.new.self c.in_ok-expect.ensures c.in_ok-push.ensures.ok c.if-turns-eq0.true

pub loop-all-preserved : goal.loop-all-preserved
loop-all-preserved g c = λ room.
    let see = g.R.PartReader.see in
    let read = g.R.PartReader.reader c.args.reader.now in
    at_more see read room (each room read c.args.words.now) c.loop-all.turns c.loop-all.all c.loop-all.words c.read.new.words (c.loop-all.invariant room)
    c.in-Some.part c.in_ok-part.field-0 c.in-Some.is c.in_ok-part.ensures c.in_ok-expect.field-0 c.expect.new.self c.push.new.self c.in_ok-expect.ensures c.in_ok-push.ensures.ok c.if-turns-eq0.false

pub returns : goal.returns
returns g c = λ room.
    let see = g.R.PartReader.see in
    let read = g.R.PartReader.reader c.args.reader.now in
    at_end see read room (each room read c.args.words.now) c.loop-all.turns c.loop-all.all c.loop-all.words c.read.new.words (c.loop-all.invariant room) c.in_ok-part.field-0 c.in_default.is c.in_ok-part.ensures
