use Rattle.std.proofs.Common.{◌≡◌, ◌∙◌, ap, sym, map, Result, Err}
use Rattle.ui_base.specs.declared.value.Pos.{Pos}
use Rattle.ui_forms.specs.Form as forms
use Rattle.ui_build.specs.Package.{or_form}
use Rattle.ui_build.proofs.Forms.{form_seen}
use Rattle.ui_build.proofs.judging.form_of_trees.Goals as goal

pub returns-in-Ok-clause-settled : goal.returns-in-Ok-clause-settled
returns-in-Ok-clause-settled c = ap or_form (form_seen c.args.path.now c.args.trees.now.size c.args.trees.now.files.items _ (rw c.deref.ensures.value at c.in-Ok.ensures))

pub returns-in-Err-NotTaken-clause-settled : goal.returns-in-Err-NotTaken-clause-settled
returns-in-Err-NotTaken-clause-settled c =
    let h : ◌≡◌ {A = Result forms.Form Pos} (forms.form_of c.args.path.now c.args.trees.now.size (map forms.source_of c.deref.result.now)) (Err c.in-Err-NotTaken.pos) = rw c.in-Err-NotTaken.field-0-is at c.in-Err-NotTaken.ensures in
    ap or_form (form_seen c.args.path.now c.args.trees.now.size c.args.trees.now.files.items _ (ap (λ fs. forms.form_of c.args.path.now c.args.trees.now.size (map forms.source_of fs)) (sym c.deref.ensures.value) ∙ h))
