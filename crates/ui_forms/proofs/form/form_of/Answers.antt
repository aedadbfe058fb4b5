use Rattle.std.proofs.Common.{[], Err, map, sym, ap, subst, ◌∙◌}
use Rattle.std.specs.Option.{option_copied}
use Rattle.std.proofs.lemmas.Result.{err_from_is_err_and}
use Rattle.ui_forms.specs.Choosing.{GivesForm}
use Rattle.ui_forms.specs.Form.{are_distinct, form_of, source_of}
use Rattle.ui_forms.proofs.FormLemmas.{form-none, form-other, form-repeated, form-stops, form-taken, has_first, refused}
use Rattle.ui_forms.proofs.form.form_of.Goals as goal

pub returns-in_default : goal.returns-in_default
returns-in_default c = refused (form_of c.args.path.now c.args.size (map source_of c.args.files.now)) (record { file = []; line = 1; col = 1 }) c.not_taken.result (form-none c.args.path.now c.args.size c.args.files.now (sym c.first.ensures.value ∙ ap option_copied c.in_default.is)) c.not_taken.ensures

pub returns-then-not-is_package : goal.returns-then-not-is_package
returns-then-not-is_package c =
    let f = has_first c.args.files.now c.in-Some.first.now (sym c.first.ensures.value ∙ ap option_copied c.in-Some.is) in
    refused (form_of c.args.path.now c.args.size (map source_of c.args.files.now)) (record { file = c.bytes.result.now; line = 1; col = 1 }) c.not_taken-then-not-is_package.result
    (ap (λ p. form_of p c.args.size (map source_of c.args.files.now)) (sym c.as_bytes-path.ensures.value)
    ∙ form-other c.as_bytes-path.result.now c.args.size (map source_of c.args.files.now) f.some (sym c.is_package.ensures ∙ c.if-not-is_package.true)
    ∙ ap Err (f.front ∙ ap (λ t. record { file = t; line = 1; col = 1 }) (sym c.bytes.ensures)))
    c.not_taken-then-not-is_package.ensures

pub returns-in_err-parts : goal.returns-in_err-parts
returns-in_err-parts c =
    let f = has_first c.args.files.now c.in-Some.first.now (sym c.first.ensures.value ∙ ap option_copied c.in-Some.is) in
    let p = err_from_is_err_and c.from_residual.result c.from_residual.ensures.1 in
    rw (p.1, p.2)
    (subst (λ q. GivesForm (form_of q c.args.size (map source_of c.args.files.now)) (Err c.in_err-parts.field-0.0)) c.as_bytes-path.ensures.value
    (form-stops c.as_bytes-path.result.now c.args.size (map source_of c.args.files.now) f.some c.in_err-parts.field-0.0 (sym c.is_package.ensures ∙ c.if-not-is_package.false) c.in_err-parts.ensures))

pub returns-then-not-branch : goal.returns-then-not-branch
returns-then-not-branch c =
    let f = has_first c.args.files.now c.in-Some.first.now (sym c.first.ensures.value ∙ ap option_copied c.in-Some.is) in
    refused (form_of c.args.path.now c.args.size (map source_of c.args.files.now)) (record { file = c.bytes-then-not-branch.result.now; line = 1; col = 1 }) c.not_taken-then-not-branch.result
    (ap (λ p. form_of p c.args.size (map source_of c.args.files.now)) (sym c.as_bytes-path.ensures.value)
    ∙ form-repeated c.as_bytes-path.result.now c.args.size (map source_of c.args.files.now) f.some c.in_ok-parts.parts (sym c.is_package.ensures ∙ c.if-not-is_package.false) c.in_ok-parts.ensures (ap are_distinct (sym c.as_slice.ensures) ∙ sym c.in_ok-are_distinct.ensures ∙ c.if-not-branch.true)
    ∙ ap Err (f.front ∙ ap (λ t. record { file = t; line = 1; col = 1 }) (sym c.bytes-then-not-branch.ensures)))
    c.not_taken-then-not-branch.ensures

pub returns : goal.returns
returns c =
    let f = has_first c.args.files.now c.in-Some.first.now (sym c.first.ensures.value ∙ ap option_copied c.in-Some.is) in
    ap (λ p. form_of p c.args.size (map source_of c.args.files.now)) (sym c.as_bytes-path.ensures.value)
    ∙ form-taken c.as_bytes-path.result.now c.args.size (map source_of c.args.files.now) f.some c.in_ok-parts.parts c.in_ok-form.form (sym c.is_package.ensures ∙ c.if-not-is_package.false) c.in_ok-parts.ensures (ap are_distinct (sym c.as_slice.ensures) ∙ sym c.in_ok-are_distinct.ensures ∙ c.if-not-branch.false) c.in_ok-form.ensures
