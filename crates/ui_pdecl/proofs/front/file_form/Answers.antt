use Rattle.ui_pdecl.proofs.FrontForms.{dot_is}
use Rattle.ui_pdecl.proofs.front.file_form.Goals as goal

pub returns-in-Period : goal.returns-in-Period
returns-in-Period c =
    let s = c.args.front.now in
    rw c.in-Period.is (dot_is s.bytes.now s.tokens.now c.tokens.result.now s.from s.count c.tokens.ensures c.begins_spec-named.result c.form_if.result (c.begins_spec-named.ensures s.bytes.now) c.form_if.ensures)
