use Rattle.std.proofs.Common.{◌∙◌, ap, sym}
use Rattle.ui_tree.specs.Stmt.{no_groups}
use Rattle.ui_tree.specs.StmtView.{groups_view, maybe_groups, maybe_type_view}
use Rattle.ui_collect.specs.Package.{is_plain}
use Rattle.ui_collect.proofs.ListLemmas.{no_params, some_params}
use Rattle.ui_collect.proofs.package.is_plain.Goals as goal

pub returns-in-empty : goal.returns-in-empty
returns-in-empty c =
    no_params c.is_none.result c.as_slice.result.now c.args.sig.now.results c.is_none.ensures
    c.in-empty.len_below
    ∙ ap (λ gs. is_plain no_groups (groups_view gs) (maybe_type_view c.args.sig.now.results))
    c.as_slice.ensures
    ∙ ap (λ ts. is_plain (maybe_groups ts) (groups_view c.args.sig.now.params) (maybe_type_view
    c.args.sig.now.results)) (sym c.in-None.is)

pub returns-in-len1-up : goal.returns-in-len1-up
returns-in-len1-up c =
    some_params (maybe_groups c.args.params.now) c.as_slice.result.now (maybe_type_view
    c.args.sig.now.results) c.in-len1-up.len_at_least
    ∙ ap (λ gs. is_plain (maybe_groups c.args.params.now) (groups_view gs) (maybe_type_view
    c.args.sig.now.results)) c.as_slice.ensures
