use Rattle.std.proofs.Common.{◌≡◌, Option, Some, sym, ◌∙◌}
use Rattle.std.proofs.lemmas.Result.{IfOk-weaker}
use Rattle.ui_pexpr.specs.declared.fault.Form.{Form}
use Rattle.ui_pexpr.specs.Faults.{front_of}
use Rattle.ui_pexpr.specs.Forms.{form_by_kind}
use Rattle.ui_pexpr.proofs.FrontForms.{kind_behind}
use Rattle.ui_pexpr.proofs.front.Front.form_behind.Goals as goal

pub returns-in-Some : goal.returns-in-Some
returns-in-Some c =
    let s = c.args.self.now in
    let k = c.in-Some.kind in
    IfOk-weaker c.form_by_kind.result (λ (f : Option Form). f ≡ form_by_kind (front_of s.bytes.now s.tokens.now s.from s.count) k) _
    (λ f e. e ∙ kind_behind s.bytes.now s.tokens.now c.rest.result.now s.from s.count (Some k) c.rest.ensures (sym c.in-Some.is ∙ c.first_kind.ensures))
    c.form_by_kind.ensures
