use Rattle.ui_taken.proofs.FirstLemmas.{some_params}
use Rattle.ui_taken.proofs.decls.type_spec_form.Goals as goal

pub returns-in-len1-up : goal.returns-in-len1-up
returns-in-len1-up c = some_params c.args.at c.args.spec.now c.as_slice.result.now
    c.as_slice.ensures c.in-len1-up.len_at_least
