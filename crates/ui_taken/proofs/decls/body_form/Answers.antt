use Rattle.ui_taken.proofs.FirstLemmas.{some_stmts}
use Rattle.ui_taken.proofs.decls.body_form.Goals as goal

pub returns-in-len1-up : goal.returns-in-len1-up
returns-in-len1-up c = some_stmts c.args.results.now c.args.body.now c.as_slice.result.now
    c.in-None.is c.as_slice.ensures c.in-len1-up.len_at_least
