use Rattle.std.proofs.Common.{refl, sym, ◌∙◌}
use Rattle.ui_parse.proofs.Turns.{chain_stops, chain_fails, chain_spent, chain_more}
use Rattle.ui_parse.proofs.list.chain.Goals as goal

pub returns-in-Err : goal.returns-in-Err
returns-in-Err g c = c.loop-separator.invariant _ _
    (chain_fails c.args.separator _ c.loop-separator.turns c.loop-separator.state c.loop-separator.cursor c.take.new.self c.take.result c.take.ensures.found c.take.ensures.left _ _ _ _
    (sym c.is_some.ensures ∙ c.loop-separator-test.true) refl c.step.ensures c.in-Err.is)

pub returns-then-turns-eq0 : goal.returns-then-turns-eq0
returns-then-turns-eq0 g c = c.loop-separator.invariant _ _
    (chain_spent c.args.separator _ c.loop-separator.turns c.loop-separator.state c.loop-separator.cursor c.take.new.self c.take.result c.take.ensures.found c.take.ensures.left _ _ _ _
    (sym c.is_some.ensures ∙ c.loop-separator-test.true) refl c.step.ensures c.in-Ok.is c.if-turns-eq0.true)

pub loop-separator-preserved : goal.loop-separator-preserved
loop-separator-preserved g c = λ r left h. c.loop-separator.invariant r left
    (chain_more c.args.separator _ c.loop-separator.turns c.loop-separator.state c.loop-separator.cursor c.take.new.self c.take.result c.take.ensures.found c.take.ensures.left _ _ _ _ r left
    (sym c.is_some.ensures ∙ c.loop-separator-test.true) refl c.step.ensures c.in-Ok.is c.if-turns-eq0.false h)

pub returns : goal.returns
returns g c = c.loop-separator.invariant _ _
    (chain_stops c.args.separator _ c.loop-separator.turns c.loop-separator.state c.loop-separator.cursor c.take.new.self c.take.result c.take.ensures.found c.take.ensures.left
    (sym c.is_some.ensures ∙ c.loop-separator-test.false))
