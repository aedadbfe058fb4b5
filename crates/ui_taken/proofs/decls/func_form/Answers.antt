use Rattle.std.proofs.Common.{◌∙◌, ap, sym}
use Rattle.ui_tree.specs.StmtView.{block_view, groups_view, maybe_groups, maybe_type_view}
use Rattle.ui_taken.specs.Taken.{func_form}
use Rattle.ui_taken.proofs.decls.func_form.Goals as goal

pub returns-in-None : goal.returns-in-None
returns-in-None c =
    c.sig_form.ensures c.args.at
    ∙ ap (λ ps. func_form c.args.at (maybe_groups ps) (groups_view c.args.sig.now.params)
    (maybe_type_view c.args.sig.now.results) (block_view c.args.body.now)) (sym c.in-None.is)
