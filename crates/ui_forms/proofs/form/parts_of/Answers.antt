use Rattle.std.proofs.lemmas.Result.{err_from_is_err_and}
use Rattle.ui_forms.specs.Form.{at_file, part_of, source_of}
use Rattle.ui_base.proofs.StepLemmas.{behind_start, each_ended, each_more}
use Rattle.ui_forms.proofs.StepLemmas.{each_form_stops}
use Rattle.ui_forms.proofs.form.parts_of.Goals as goal

pub loop-file-init : goal.loop-file-init
loop-file-init c = behind_start c.new-parts.result _ c.new-parts.ensures

pub loop-file-preserved : goal.loop-file-preserved
loop-file-preserved c =
    each_more source_of (λ source. at_file source.name (part_of c.args.own.now source)) c.args.files.now c.loop-file.file-index c.loop-file.parts _ c.file-item.result c.in_ok-part.part _ c.loop-file-test.true c.file-item.is c.loop-file.invariant c.in_ok-part.ensures c.in_ok-push.ensures.ok

pub returns-in_err-part : goal.returns-in_err-part
returns-in_err-part c =
    let p = err_from_is_err_and c.from_residual.result c.from_residual.ensures.1 in
    rw (p.1, p.2) (each_form_stops source_of (λ source. at_file source.name (part_of c.args.own.now source)) c.args.files.now c.loop-file.file-index c.loop-file.parts _ c.file-item.result c.in_err-part.field-0.0 c.loop-file-test.true c.file-item.is c.loop-file.invariant c.in_err-part.ensures)

pub returns : goal.returns
returns c = each_ended source_of (λ source. at_file source.name (part_of c.args.own.now source)) c.args.files.now c.loop-file.file-index c.loop-file.parts _ c.loop-file-test.false c.loop-file.invariant
