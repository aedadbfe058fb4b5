use Rattle.std.proofs.Common.{get_or, subst}
use Rattle.std.specs.Prelude.{None, length, option_map}
use Rattle.ui_types.specs.Table.{tree}
use Rattle.ui_types.specs.Decls.{DeclTrees}
use Rattle.ui_infer.specs.Bindings.{turn}
use Rattle.ui_infer.specs.Faults.{Refuses, fault_of}
use Rattle.ui_infer.specs.Shown.{shown_round}
use Rattle.ui_infer.proofs.LoopLemmas.{turns_at, stops}
use Rattle.ui_infer.proofs.cores.turns.Goals as goal

pub returns-in-Err-clause-answer : goal.returns-in-Err-clause-answer
returns-in-Err-clause-answer g c =
    let i = c.loop-k.invariant in
    let k = c.loop-k.k in
    let table = c.loop-k.table in
    let n = length c.args.cores.now in
    let r = shown_round table c.loop-k.bindings.items c.loop-k.taken in
    let at = turns_at (g.E.Env.decls c.args.env.now c.args.table.now) n c.args.cores.now k None r
    i.kept.grows c.requires.cores c.loop-k-test.true in
    let why = subst (λ (ds : DeclTrees). Refuses c.turn.new.table
    (fault_of (turn ds n k (option_map (tree table) (get_or c.args.cores.now k None)) r))
    c.in-Err.fault)
    i.kept.same c.in-Err.ensures.answer in
    stops c.turn.new.table _ _ c.in-Err.fault _ _ at i.answer why
