use Rattle.std.proofs.Common.{◌≡◌, Bool, true, false, List, length, refl, ap, ◌∙◌, arith}
use Rattle.std.proofs.lemmas.Result.{IfOk-weaker}
use Rattle.ui_grammar.specs.Word.{Word}
use Rattle.ui_stmts.specs.Decls.{type_params_apart}
use Rattle.ui_pexpr.specs.Forms.{is_whole}
use Rattle.ui_pdecl.proofs.FrontForms.{no_bracket, no_params, params_are}
use Rattle.ui_pdecl.proofs.front.ends_in_params.Goals as goal

pub returns-then-not-ends_in : goal.returns-then-not-ends_in
returns-then-not-ends_in c =
    let s = c.args.front.now in
    let off : c.ends_in.result ≡ false = grind arith in
    no_bracket s.bytes.now s.tokens.now c.tokens-tokens.result.now s.from s.count c.tokens-tokens.ensures c.ends_in.result (c.ends_in.ensures s.bytes.now) off

pub returns-then-not-opens_params : goal.returns-then-not-opens_params
returns-then-not-opens_params c =
    let s = c.args.front.now in
    let on : c.ends_in.result ≡ true = grind arith in
    let off : c.opens_params.result ≡ false = grind arith in
    no_params s.bytes.now s.tokens.now c.tokens-tokens.result.now s.from s.count c.tokens-tokens.ensures c.ends_in.result (c.ends_in.ensures s.bytes.now) on c.before_last.result.now c.opening-bracket.result.now c.opens_params.result
    (c.before_last.ensures.words s.bytes.now) (c.opening-bracket.ensures.words s.bytes.now) (c.opens_params.ensures s.bytes.now) off

pub returns : goal.returns
returns c =
    let s = c.args.front.now in
    let opened = c.opening-bracket.result.now in
    let on : c.ends_in.result ≡ true = grind arith in
    let opens : c.opens_params.result ≡ true = grind arith in
    IfOk-weaker c.are_params.result (λ (b : Bool). b ≡ is_whole (type_params_apart 199 c.words_from.result)) _
    (λ b e. params_are s.bytes.now s.tokens.now c.tokens-tokens.result.now s.from s.count c.tokens-tokens.ensures c.ends_in.result (c.ends_in.ensures s.bytes.now) on c.before_last.result.now opened c.opens_params.result
    (c.before_last.ensures.words s.bytes.now) (c.opening-bracket.ensures.words s.bytes.now) (c.opens_params.ensures s.bytes.now) opens (length opened) b refl (e ∙ ap (λ (v : List Word). is_whole (type_params_apart 199 v)) c.words_from.ensures))
    c.are_params.ensures
