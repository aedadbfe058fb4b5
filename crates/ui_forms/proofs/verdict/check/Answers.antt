use Rattle.std.proofs.Common.{ap, subst, ◌∙◌}
use Rattle.ui_forms.specs.Size.{IsSmallForm}
use Rattle.ui_forms.specs.Verdict.{environment_of}
use Rattle.ui_forms.proofs.VerdictLaws.{exports-small}
use Rattle.ui_forms.proofs.VerdictLemmas.{verdict-ok, verdict-refused, verdict-unused}
use Rattle.ui_forms.proofs.verdict.check.Goals as goal

pub returns-in-Ok-check_imports-clause-accepted : goal.returns-in-Ok-check_imports-clause-accepted
returns-in-Ok-check_imports-clause-accepted c =
    verdict-ok (environment_of c.args.imports.now) c.args.form.now c.as_slice.result.now (c.as_slice.ensures ∙ ap (λ f. f.parts) c.form.view_is)
    c.in-Ok.package c.bytes.result.now c.bytes-2.result.now c.as_slice-in-Ok.result.now c.in-Ok-check_imports.field-0
    (c.bytes.ensures ∙ ap (λ f. f.path) c.form.view_is) (c.bytes-2.ensures ∙ ap (λ f. f.name) c.form.view_is)
    c.in-Ok.ensures.accepted c.in-Ok.ensures.named (c.as_slice-in-Ok.ensures ∙ ap (λ f. f.parts) c.form.view_is) c.in-Ok-check_imports.ensures.used

pub returns-in-Ok-check_imports-clause-small : goal.returns-in-Ok-check_imports-clause-small
returns-in-Ok-check_imports-clause-small c =
    exports-small (environment_of c.args.imports.now) c.args.form.now c.in-Ok.package (subst IsSmallForm c.form.view_is c.form.invariant.small)
    (verdict-ok (environment_of c.args.imports.now) c.args.form.now c.as_slice.result.now (c.as_slice.ensures ∙ ap (λ f. f.parts) c.form.view_is)
    c.in-Ok.package c.bytes.result.now c.bytes-2.result.now c.as_slice-in-Ok.result.now c.in-Ok-check_imports.field-0
    (c.bytes.ensures ∙ ap (λ f. f.path) c.form.view_is) (c.bytes-2.ensures ∙ ap (λ f. f.name) c.form.view_is)
    c.in-Ok.ensures.accepted c.in-Ok.ensures.named (c.as_slice-in-Ok.ensures ∙ ap (λ f. f.parts) c.form.view_is) c.in-Ok-check_imports.ensures.used)

pub returns-in-Err-check_imports-clause-refused : goal.returns-in-Err-check_imports-clause-refused
returns-in-Err-check_imports-clause-refused c =
    verdict-unused (environment_of c.args.imports.now) c.args.form.now c.as_slice.result.now (c.as_slice.ensures ∙ ap (λ f. f.parts) c.form.view_is)
    c.in-Ok.package.decls c.as_slice-in-Ok.result.now c.in-Err-check_imports.fault c.in-Ok.ensures.accepted (c.as_slice-in-Ok.ensures ∙ ap (λ f. f.parts) c.form.view_is) c.in-Err-check_imports.ensures.refused

pub returns-in-Err-clause-refused : goal.returns-in-Err-clause-refused
returns-in-Err-clause-refused c =
    verdict-refused (environment_of c.args.imports.now) c.args.form.now c.as_slice.result.now (c.as_slice.ensures ∙ ap (λ f. f.parts) c.form.view_is) c.in-Err.first c.in-Err.ensures.refused
