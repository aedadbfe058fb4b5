use Rattle.std.proofs.lemmas.Result.{err_from_is_err_and}
use Rattle.ui_tree.specs.StmtView.{import_view}
use Rattle.ui_forms.specs.Form.{import_of}
use Rattle.ui_base.proofs.StepLemmas.{behind_start, each_ended, each_more}
use Rattle.ui_forms.proofs.StepLemmas.{each_part_stops}
use Rattle.ui_forms.proofs.import.imports_in.Goals as goal

pub loop-import-init : goal.loop-import-init
loop-import-init c = behind_start c.new-taken.result _ c.new-taken.ensures

pub loop-import-preserved : goal.loop-import-preserved
loop-import-preserved c =
    each_more import_view (import_of c.args.own.now) c.args.imports.now c.loop-import.import-index c.loop-import.taken _ c.import-item.result c.in_ok-path.path _ c.loop-import-test.true c.import-item.is c.loop-import.invariant c.in_ok-path.ensures c.in_ok-push.ensures.ok

pub returns-in_err-path : goal.returns-in_err-path
returns-in_err-path c =
    let p = err_from_is_err_and c.from_residual.result c.from_residual.ensures.1 in
    rw (p.1, p.2) (each_part_stops import_view (import_of c.args.own.now) c.args.imports.now c.loop-import.import-index c.loop-import.taken _ c.import-item.result c.in_err-path.field-0.0 c.loop-import-test.true c.import-item.is c.loop-import.invariant c.in_err-path.ensures)

pub returns : goal.returns
returns c = each_ended import_view (import_of c.args.own.now) c.args.imports.now c.loop-import.import-index c.loop-import.taken _ c.loop-import-test.false c.loop-import.invariant
