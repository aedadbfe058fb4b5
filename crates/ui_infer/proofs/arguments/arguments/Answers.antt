use Rattle.std.proofs.Common.{false, get_or, subst}
use Rattle.ui_types.specs.declared.id.TypeId.{TypeId}
use Rattle.ui_types.specs.Table.{tree}
use Rattle.ui_types.specs.Decls.{DeclTrees}
use Rattle.ui_infer.specs.declared.actual.Actual.{Actual}
use Rattle.ui_infer.specs.Bindings.{argument}
use Rattle.ui_infer.specs.Faults.{Refuses, fault_of}
use Rattle.ui_infer.specs.Shown.{shown_actual, shown_bound}
use Rattle.ui_infer.proofs.LoopLemmas.{arguments_at, stops}
use Rattle.ui_infer.proofs.arguments.arguments.Goals as goal

pub returns-in-Err-clause-answer : goal.returns-in-Err-clause-answer
returns-in-Err-clause-answer g c =
    let i = c.loop-k.invariant in
    let k = c.loop-k.k in
    let table = c.loop-k.table in
    let df : TypeId = record { 0 = 0 } in
    let da : Actual = record { index = 0; ty = df; constant = false } in
    let b = shown_bound table c.loop-k.bound in
    let at = arguments_at (g.E.Env.decls c.args.env.now c.args.table.now) c.args.count c.args.given
    c.args.actuals.now c.args.formals.now k da df b
    i.kept.grows c.requires.actuals c.requires.formals c.requires.same c.loop-k-test.true in
    let why = subst (λ (ds : DeclTrees). Refuses c.argument.new.table
    (fault_of (argument ds c.args.count c.args.given
    (shown_actual table (get_or c.args.actuals.now k da))
    (tree table (get_or c.args.formals.now k df)) b)) c.in-Err.fault)
    i.kept.same c.in-Err.ensures.answer in
    stops c.argument.new.table _ _ c.in-Err.fault _ _ at i.answer why
