use Rattle.std.proofs.Common.{◌≡◌, ◌+◌, ℕ, drop, Option, ap, ◌∙◌, arith}
use Rattle.std.proofs.lemmas.Result.{IfOk-weaker}
use Rattle.ui_scan.specs.declared.kind.TokenKind.{TokenKind}
use Rattle.ui_grammar.specs.Word.{words}
use Rattle.ui_pexpr.specs.declared.fault.ParseFault.{ParseFault}
use Rattle.ui_pexpr.specs.Faults.{first_offset, first_kind}
use Rattle.ui_pdecl.specs.FileResult.{told_at}
use Rattle.ui_pdecl.proofs.front.fault_behind.Goals as goal

pub returns : goal.returns
returns c =
    let bytes = c.args.bytes.now in
    let ts = c.args.tokens.now in
    let n = c.args.count in
    let kind = c.first_kind.result in
    let start = c.first_offset.result in
    let whole : 0 + n ≡ n = omega arith in
    let rest : c.rest-rest.result.now ≡ drop n ts = c.rest-rest.ensures ∙ ap (λ (m : ℕ). drop m ts) whole in
    let kind_is : kind ≡ first_kind (drop n ts) = c.first_kind.ensures ∙ ap first_kind rest in
    let start_is : start ≡ first_offset bytes (drop n ts) = c.first_offset.ensures ∙ ap (first_offset bytes) rest in
    IfOk-weaker c.fault_at.result (λ (f : ParseFault). f ≡ told_at (words bytes ts) n kind start) _
    (λ f e. e ∙ ap (λ (k : Option TokenKind). told_at (words bytes ts) n k start) kind_is ∙ ap (told_at (words bytes ts) n (first_kind (drop n ts))) start_is)
    c.fault_at.ensures
