use Rattle.std.proofs.Common.{◌≡◌, Bool, true, false, List, length, refl, ap, ◌∙◌, arith}
use Rattle.std.proofs.lemmas.Result.{IfOk-weaker}
use Rattle.ui_grammar.specs.Word.{Word}
use Rattle.ui_pexpr.specs.Forms.{is_whole, field}
use Rattle.ui_pexpr.proofs.FrontForms.{no_struct, field_is}
use Rattle.ui_pexpr.proofs.front.Front.ends_in_field.Goals as goal

pub returns-then-not-in_struct : goal.returns-then-not-in_struct
returns-then-not-in_struct c =
    let s = c.args.self.now in
    let off : c.in_struct.result ≡ false = grind arith in
    no_struct s.bytes.now s.tokens.now c.tokens-tokens.result.now s.from s.count c.tokens-tokens.ensures c.opening.result.now c.in_struct.result (c.opening.ensures.words s.bytes.now) (c.in_struct.ensures s.bytes.now) off

pub returns : goal.returns
returns c =
    let s = c.args.self.now in
    let on : c.in_struct.result ≡ true = grind arith in
    let start = c.opening-start.result.now in
    IfOk-weaker c.is_field.result (λ (b : Bool). b ≡ is_whole (field c.words_from.result)) _
    (λ b e. field_is s.bytes.now s.tokens.now c.tokens-tokens.result.now s.from s.count c.tokens-tokens.ensures c.opening.result.now c.in_struct.result (c.opening.ensures.words s.bytes.now) (c.in_struct.ensures s.bytes.now) on start (length start) b
    (c.opening-start.ensures.words s.bytes.now) refl (e ∙ ap (λ (v : List Word). is_whole (field v)) c.words_from.ensures))
    c.is_field.ensures
