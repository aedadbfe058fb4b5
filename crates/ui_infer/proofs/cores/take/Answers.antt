use Rattle.std.proofs.Common.{◌≡◌, List, ap, ◌∙◌, ◌++◌, rules}
use Rattle.ui_infer.specs.declared.binding.Binding.{Binding}
use Rattle.ui_infer.proofs.TurnLemmas.{with_core_ok}
use Rattle.ui_infer.proofs.cores.take.Goals as goal

pub returns-in-Ok-append-clause-answer : goal.returns-in-Ok-append-clause-answer
returns-in-Ok-append-clause-answer g c =
    let bs = c.args.bindings.now.items in
    let found : c.as_slice.result.now ≡ c.in-Ok.found.items = search rules in
    let all : c.append.new.bindings.items ≡ bs ++ c.in-Ok.found.items = c.in-Ok-append.ensures
    ∙ ap (λ (xs : List Binding). bs ++ xs) found in
    with_core_ok (g.E.Env.decls c.args.env.now c.args.table.now) c.args.count _ _ bs
    c.append.new.bindings.items c.in-Ok.found.items
    c.core_bindings.ensures.kept.grows c.requires.bindings c.in-Ok.ensures.answer.1 all
