use Rattle.std.proofs.Common.{map, ap, ◌∙◌}
use Rattle.std.proofs.lemmas.Result.{err_from_is_err_and}
use Rattle.ui_tree.specs.StmtView.{decl_view}
use Rattle.ui_forms.specs.Numbers.{has}
use Rattle.ui_forms.specs.Form.{constants_of}
use Rattle.ui_forms.proofs.NumberLemmas.{has-empty}
use Rattle.ui_base.proofs.StepLemmas.{behind_start}
use Rattle.ui_forms.proofs.ConstantLemmas.{constants_end, constants_more, constants_stop}
use Rattle.ui_forms.proofs.constant.constants_in.Goals as goal

pub loop-decl-init : goal.loop-decl-init
loop-decl-init c =
    behind_start c.new-constants.result _ c.new-constants.ensures
    ∙ ap (λ m. constants_of (has c.args.imports.now) (has m) (map decl_view c.args.decls.now)) c.new-own.ensures
    ∙ ap (λ k. constants_of (has c.args.imports.now) k (map decl_view c.args.decls.now)) has-empty

pub loop-decl-preserved : goal.loop-decl-preserved
loop-decl-preserved c =
    constants_more (has c.args.imports.now) c.loop-decl.own c.args.decls.now c.loop-decl.decl-index c.loop-decl.constants _ c.add.new.self c.decl-item.result c.in_ok-constant.constant _ c.bytes.result.now 0 c.loop-decl-test.true c.decl-item.is c.loop-decl.invariant c.in_ok-constant.ensures c.bytes.ensures c.in_ok-add.ensures.now c.in_ok-push.ensures.ok

pub returns-in_err-constant : goal.returns-in_err-constant
returns-in_err-constant c =
    let p = err_from_is_err_and c.from_residual.result c.from_residual.ensures.1 in
    rw (p.1, p.2) (constants_stop (has c.args.imports.now) c.loop-decl.own c.args.decls.now c.loop-decl.decl-index c.loop-decl.constants _ c.decl-item.result c.in_err-constant.field-0.0 c.loop-decl-test.true c.decl-item.is c.loop-decl.invariant c.in_err-constant.ensures)

pub returns : goal.returns
returns c = constants_end (has c.args.imports.now) c.loop-decl.own c.args.decls.now c.loop-decl.decl-index c.loop-decl.constants _ c.loop-decl-test.false c.loop-decl.invariant
