use Rattle.std.proofs.Common.{◌≡◌, List, sym, ap, ◌∙◌, ◌++◌, rules, subst}
use Rattle.ui_types.specs.Ty.{Ty}
use Rattle.ui_types.specs.Table.{AreIds, trees}
use Rattle.ui_infer.specs.declared.binding.Binding.{Binding}
use Rattle.ui_infer.specs.Faults.{Infers, Gives}
use Rattle.ui_infer.specs.Bindings.{unbound_constants}
use Rattle.ui_infer.specs.Shown.{shown_actuals, shown_bindings}
use Rattle.ui_infer.proofs.EndLemmas.{concluded_is}
use Rattle.ui_infer.proofs.inference.concluded.Goals as goal

pub returns-in-Ok-append-clause-answer : goal.returns-in-Ok-append-clause-answer
returns-in-Ok-append-clause-answer c =
    let old = c.args.table.now in
    let new = c.unbound_constants.new.table in
    let bs = c.args.bound.now.entries.items in
    let formals = trees old c.args.formals.now in
    let actuals = shown_actuals old c.args.actuals.now in
    let entries : c.as_slice-entries.result.now ≡ bs = search rules in
    let more : c.as_slice.result.now ≡ c.in-Ok.more.items = search rules in
    let all : c.append.new.bindings.items ≡ bs ++ c.in-Ok.more.items = c.in-Ok-append.ensures
    ∙ ap (λ (xs : List Binding). bs ++ xs) more in
    let found : shown_bindings new c.in-Ok.more.items
    ≡ unbound_constants c.args.count (shown_bindings old bs) formals actuals =
    c.in-Ok.ensures.value ∙ ap (λ (xs : List Binding). unbound_constants c.args.count
    (shown_bindings old xs) formals actuals) entries in
    let whole = concluded_is c.args.count bs c.in-Ok.more.items c.append.new.bindings.items
    c.args.bound.now.mismatch formals actuals c.unbound_constants.ensures.grows
    c.requires.bound all found in
    subst (λ (w : Infers (List Ty)). Gives new (AreIds new) (trees new) w c.verdict.result)
    (sym whole) c.verdict.ensures
