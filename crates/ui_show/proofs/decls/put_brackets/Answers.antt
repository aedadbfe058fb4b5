use Rattle.std.proofs.Common.{◌∙◌, ◌++◌, ℕ, List, ap}
use Rattle.std.proofs.lemmas.Result.{on_ok_weaker}
use Rattle.ui_show.proofs.Shown.{arguments_shown}
use Rattle.ui_show.proofs.decls.put_brackets.Goals as goal

pub returns-in_default : goal.returns-in_default
returns-in_default c =
    on_ok_weaker c.put_arguments.result
    (λ e. e ∙ ap (λ (ts : List ℕ). c.args.out.now.items ++ ts)
    (arguments_shown c.args.table.now c.args.params.now c.args.args.now c.in_default.len_at_least))
    c.put_arguments.ensures
