use Rattle.std.proofs.Common.{◌≡◌, ◌+◌, ◌-◌, sym, ap, ◌∙◌, subst}
use Rattle.std.specs.Prelude.{Ok, length}
use Rattle.ui_types.specs.Kept.{Kept-trans}
use Rattle.ui_infer.specs.Bindings.{RoundTree, rounds, turns}
use Rattle.ui_infer.specs.Faults.{Infers, Refuses, fault_of}
use Rattle.ui_infer.specs.Shown.{shown_cores, shown_round}
use Rattle.ui_infer.proofs.LoopLemmas.{go_on, rounds_at, rounds_idle, rounds_over, turns_here}
use Rattle.ui_infer.proofs.LoopLemmas.{stops}
use Rattle.ui_infer.proofs.cores.rounds.Goals as goal

pub loop-round-preserved : goal.loop-round-preserved
loop-round-preserved g c =
    let i = c.loop-round.invariant in
    let e = c.in-Ok-true.ensures in
    let ds = g.E.Env.decls c.args.env.now c.args.table.now in
    let cs = shown_cores c.args.table.now c.args.cores.now in
    let n = length c.args.cores.now in
    let r = shown_round c.loop-round.table c.loop-round.bindings.items c.loop-round.taken in
    let new = shown_round c.turns.new.table c.turns.new.bindings.items c.turns.new.taken in
    let here = turns_here c.args.cores.now r i.kept.same i.kept.grows c.requires.cores in
    let at = rounds_at ds cs n c.loop-round._round r c.loop-round-test.true in
    record {
      kept = Kept-trans i.kept e.kept;
      valid = e.valid;
      answer = go_on (turns ds (length cs) 0 cs r) (rounds ds cs (n - (c.loop-round._round + 1)))
          new _ _ at i.answer (sym here ∙ e.answer);
    }

pub returns-in-Ok-false-clause-answer : goal.returns-in-Ok-false-clause-answer
returns-in-Ok-false-clause-answer g c =
    let i = c.loop-round.invariant in
    let ds = g.E.Env.decls c.args.env.now c.args.table.now in
    let cs = shown_cores c.args.table.now c.args.cores.now in
    let r = shown_round c.loop-round.table c.loop-round.bindings.items c.loop-round.taken in
    let same = c.in-Ok-false.ensures.idle c.in-Ok-false.field-0-test in
    let here = turns_here c.args.cores.now r i.kept.same i.kept.grows c.requires.cores in
    let idle : turns ds (length cs) 0 cs r ≡ Ok r = sym here ∙ c.in-Ok-false.ensures.answer
    ∙ ap (λ (x : RoundTree). let o : Infers RoundTree = Ok x in o) same in
    sym i.answer ∙ rounds_idle ds cs (length c.args.cores.now - c.loop-round._round) r idle
    ∙ ap (λ (x : RoundTree). let o : Infers RoundTree = Ok x in o) (sym same)

pub returns-in-Err-clause-answer : goal.returns-in-Err-clause-answer
returns-in-Err-clause-answer g c =
    let i = c.loop-round.invariant in
    let ds = g.E.Env.decls c.args.env.now c.args.table.now in
    let cs = shown_cores c.args.table.now c.args.cores.now in
    let r = shown_round c.loop-round.table c.loop-round.bindings.items c.loop-round.taken in
    let here = turns_here c.args.cores.now r i.kept.same i.kept.grows c.requires.cores in
    let at = rounds_at ds cs (length c.args.cores.now) c.loop-round._round r c.loop-round-test.true
    in
    let why = subst (λ (w : Infers RoundTree). Refuses c.turns.new.table (fault_of w)
    c.in-Err.fault) here c.in-Err.ensures.answer in
    stops c.turns.new.table _ _ c.in-Err.fault _ _ at i.answer why

pub returns-clause-answer : goal.returns-clause-answer
returns-clause-answer g c =
    let i = c.loop-round.invariant in
    let ds = g.E.Env.decls c.args.env.now c.args.table.now in
    let cs = shown_cores c.args.table.now c.args.cores.now in
    let r = shown_round c.loop-round.table c.loop-round.bindings.items c.loop-round.taken in
    sym i.answer ∙ rounds_over ds cs (length c.args.cores.now) c.loop-round._round r
    c.loop-round-test.false
