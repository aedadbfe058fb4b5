use Rattle.std.proofs.Common.{map}
use Rattle.std.proofs.lemmas.Result.{err_from_is_err_and}
use Rattle.ui_exports.specs.Linked.{below}
use Rattle.ui_below.specs.Claims.{claims}
use Rattle.ui_build.specs.Views.{imports_of}
use Rattle.ui_build.proofs.Judged.{judged_list_stop, judged_export_stop, judged_ok, is_small, few_mapped}
use Rattle.ui_build.proofs.judging.judge.Goals as goal

pub returns-in_err-below-clause-settled : goal.returns-in_err-below-clause-settled
returns-in_err-below-clause-settled c =
    let p = err_from_is_err_and c.from_residual.result c.from_residual.ensures.1 in
    rw (p.1, p.2) (judged_list_stop c.args.path.now c.args.form.now (imports_of c.args.imports.now) c.in_err-below.field-0.0 c.in_err-below.ensures.settled)

pub returns-in_err-package-clause-settled : goal.returns-in_err-package-clause-settled
returns-in_err-package-clause-settled c =
    let p = err_from_is_err_and c.from_residual-in_err-package.result c.from_residual-in_err-package.ensures.1 in
    rw (p.1, p.2) (judged_export_stop c.args.path.now c.args.form.now (imports_of c.args.imports.now) (map below c.in_ok-below.below.items) c.in_err-package.field-0.0 c.in_ok-below.ensures.settled (rw c.deref.ensures.value at c.in_err-package.ensures.settled))

pub returns-clause-settled : goal.returns-clause-settled
returns-clause-settled c = judged_ok c.args.path.now c.args.form.now (imports_of c.args.imports.now) (map below c.in_ok-below.below.items) c.in_ok-package.package c.in_ok-below.ensures.settled (rw c.deref.ensures.value at c.in_ok-package.ensures.settled)

pub returns-clause-small : goal.returns-clause-small
returns-clause-small c =
    is_small c.args.path.now (claims c.args.imports.now.files.items c.args.imports.now.prints.items) (map below c.in_ok-below.below.items) c.in_ok-package.package c.list_of_paths.ensures.listed c.list_of_paths.ensures.holds c.requires.sound c.in_ok-below.ensures.joined (few_mapped below c.in_ok-below.below.items _ c.in_ok-below.ensures.few) c.in_ok-package.ensures.small c.in_ok-package.ensures.named
