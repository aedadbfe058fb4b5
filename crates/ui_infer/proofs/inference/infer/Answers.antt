use Rattle.std.proofs.Common.{List, sym, ◌∙◌, subst}
use Rattle.std.specs.Prelude.{Ok}
use Rattle.ui_types.specs.Ty.{Ty}
use Rattle.ui_types.specs.Table.{AreIds, trees}
use Rattle.ui_types.specs.Trees.{Grows-trans}
use Rattle.ui_infer.specs.Pairs.{BindingTree}
use Rattle.ui_infer.specs.Bindings.{BoundTree}
use Rattle.ui_infer.specs.Faults.{Infers, Gives, Refuses, fault_of}
use Rattle.ui_infer.specs.Shown.{shown_actuals, shown_bindings, shown_bound, shown_cores}
use Rattle.ui_infer.proofs.EndLemmas.{arguments_is, all_rounds_is, concluded_here, inferred_is}
use Rattle.ui_infer.proofs.EndLemmas.{inferred_stops}
use Rattle.ui_infer.proofs.inference.infer.Goals as goal

pub returns-in-Err-all_rounds-clause-answer : goal.returns-in-Err-all_rounds-clause-answer
returns-in-Err-all_rounds-clause-answer g c =
    let ds = g.E.Env.decls c.args.env.now c.args.table.now in
    let old = c.args.table.now in
    let mid = c.arguments.new.table in
    let b : BoundTree = shown_bound mid c.arguments.new.bound in
    let first = arguments_is ds old c.args.cores.now c.args.params.now c.args.explicit.now
    c.items.result.now c.items-formals.result.now c.items-given.result.now c.args.actuals.now
    c.in-Ok.bound (Ok b)
    c.items.ensures c.items-formals.ensures c.items-given.ensures (c.in-Ok.ensures.value old)
    c.in-Ok-arguments.ensures.answer in
    let there = all_rounds_is c.args.cores.now b.entries c.arguments.ensures.kept.same
    c.arguments.ensures.kept.grows c.requires.cores in
    inferred_stops c.all_rounds.new.table ds (shown_cores old c.args.cores.now)
    (trees old c.args.params.now) (shown_actuals old c.args.actuals.now)
    (trees old c.args.explicit.now) b c.in-Err-all_rounds.fault first
    (subst (λ (w : Infers (List BindingTree)). Refuses c.all_rounds.new.table (fault_of w)
    c.in-Err-all_rounds.fault) (sym there) c.in-Err-all_rounds.ensures.answer)

pub returns-clause-answer : goal.returns-clause-answer
returns-clause-answer g c =
    let ds = g.E.Env.decls c.args.env.now c.args.table.now in
    let old = c.args.table.now in
    let mid = c.arguments.new.table in
    let last = c.all_rounds.new.table in
    let end = c.concluded.new.table in
    let b : BoundTree = shown_bound mid c.arguments.new.bound in
    let es : List BindingTree = shown_bindings last c.all_rounds.new.bindings.items in
    let first = arguments_is ds old c.args.cores.now c.args.params.now c.args.explicit.now
    c.items.result.now c.items-formals.result.now c.items-given.result.now c.args.actuals.now
    c.in-Ok.bound (Ok b)
    c.items.ensures c.items-formals.ensures c.items-given.ensures (c.in-Ok.ensures.value old)
    c.in-Ok-arguments.ensures.answer in
    let second = all_rounds_is c.args.cores.now b.entries c.arguments.ensures.kept.same
    c.arguments.ensures.kept.grows c.requires.cores ∙ c.in-Ok-all_rounds.ensures.answer in
    let whole = inferred_is ds (shown_cores old c.args.cores.now) (trees old c.args.params.now)
    (shown_actuals old c.args.actuals.now) (trees old c.args.explicit.now) b es first second in
    let here = concluded_here c.args.cores.now (record { entries = es; differs = b.differs })
    c.args.params.now c.items-formals.result.now c.args.actuals.now
    (Grows-trans c.arguments.ensures.kept.grows c.all_rounds.ensures.kept.grows)
    c.items-formals.ensures c.requires.params c.requires.actuals in
    subst (λ (w : Infers (List Ty)). Gives end (AreIds end) (trees end) w c.concluded.result)
    (sym (whole ∙ here)) c.concluded.ensures.answer
