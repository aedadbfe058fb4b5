use Rattle.std.proofs.Common.{◌∙◌}
use Rattle.ui_forms.proofs.FormLemmas.{form_found, form_kept}
use Rattle.ui_forms.proofs.form.form_of_parts.Goals as goal

pub imports_of-requires : goal.imports_of-requires
imports_of-requires c = form_found c.args.path.now c.args.size c.args.files.now c.args.parts c.requires.package c.requires.parts

pub invariant_of-result : goal.invariant_of-result
invariant_of-result c =
    form_kept c.args.path.now _ _ c.args.size c.args.files.now c.args.parts _ c.requires.some c.requires.package c.requires.parts c.in_ok-from_slice.ensures (c.in_ok-from_slice-2.ensures ∙ c.last_segment.ensures) c.in_ok-paths.ensures
