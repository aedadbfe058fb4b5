use Rattle.std.proofs.Common.{Ok, sym, ap, ◌∙◌}
use Rattle.std.proofs.lemmas.Result.{err_from_is_err_and}
use Rattle.ui_forms.specs.Form.{part_with}
use Rattle.ui_forms.proofs.FormLemmas.{part_sums, sums_stop}
use Rattle.ui_forms.proofs.form.part_of.Goals as goal

pub returns-in_err-constants : goal.returns-in_err-constants
returns-in_err-constants c =
    let p = err_from_is_err_and c.from_residual-in_err-constants.result c.from_residual-in_err-constants.ensures.1 in
    rw (p.1, p.2) (sums_stop c.args.file.now.file c.in_ok-imports.imports _ _ c.in_err-constants.field-0.0 (part_sums c.args.own.now c.args.file.now c.as_slice.result.now c.as_slice-3.result.now c.in_ok-imports.imports c.as_slice-2.result.now c.in_ok-segments.segments c.as_slice.ensures c.in_ok-imports.ensures c.as_slice-2.ensures c.in_ok-segments.ensures c.as_slice-3.ensures) c.in_err-constants.ensures)

pub returns : goal.returns
returns c =
    part_sums c.args.own.now c.args.file.now c.as_slice.result.now c.as_slice-3.result.now c.in_ok-imports.imports c.as_slice-2.result.now c.in_ok-segments.segments c.as_slice.ensures c.in_ok-imports.ensures c.as_slice-2.ensures c.in_ok-segments.ensures c.as_slice-3.ensures
    ∙ ap (part_with c.args.file.now.file c.in_ok-imports.imports) c.in_ok-constants.ensures
    ∙ ap (λ t. Ok (record { file = t; imports = c.in_ok-imports.imports; constants = c.in_ok-constants.constants })) (sym c.in_ok-name.ensures)
