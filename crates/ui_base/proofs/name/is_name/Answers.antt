use Rattle.std.proofs.Common.{◌≡◌, ◌∙◌, ap, sym, refl, ℕ, List, Bool, true, false, not, ◌&&◌}
use Rattle.std.specs.Str.{chars, IsUtf8, is_utf8}
use Rattle.std.proofs.lemmas.Str.{IsUtf8-from_is_utf8, is_utf8-from_IsUtf8}
use Rattle.ui_base.specs.Names.{is_name, is_identifier, is_keyword}
use Rattle.ui_base.proofs.name.is_name.Goals as goal

not_text : (bytes : List ℕ) (b : Bool) → is_utf8 bytes ≡ b → ¬ (IsUtf8 bytes) → is_utf8 bytes ≡ false
not_text bytes true e h = absurd (h (IsUtf8-from_is_utf8 bytes e))
not_text bytes false e h = e

no_name : (bytes : List ℕ) → ¬ (IsUtf8 bytes) → false ≡ is_name bytes
unfolding is_name
no_name bytes h = sym (ap (λ b. b && (is_identifier (chars bytes) && not (is_keyword bytes))) (not_text bytes _ refl h))

name_of_text : (bytes text : List ℕ) (i k : Bool) → text ≡ bytes → IsUtf8 bytes → i ≡ is_identifier (chars text) → k ≡ is_keyword bytes → (i && not k) ≡ is_name bytes
unfolding is_name
name_of_text bytes text i k same utf8 is_i is_k =
    ap (λ b. b && not k) (is_i ∙ ap (λ t. is_identifier (chars t)) same)
    ∙ ap (λ b. is_identifier (chars bytes) && not b) is_k
    ∙ sym (ap (λ b. b && (is_identifier (chars bytes) && not (is_keyword bytes))) (is_utf8-from_IsUtf8 bytes utf8))

pub returns-then-is_identifier : goal.returns-then-is_identifier
returns-then-is_identifier c =
    sym (ap (λ b. b && not c.is_keyword.result) c.if-is_identifier.true)
    ∙ name_of_text _ _ c.is_identifier.result c.is_keyword.result c.in-Ok.ensures.cases.0 c.in-Ok.ensures.cases.1 c.is_identifier.ensures c.is_keyword.ensures

pub returns-else-is_identifier : goal.returns-else-is_identifier
returns-else-is_identifier c =
    c.if-is_identifier.false ∙ sym (ap (λ b. b && not (is_keyword c.args.bytes.now)) c.if-is_identifier.false)
    ∙ name_of_text _ _ c.is_identifier.result (is_keyword c.args.bytes.now) c.in-Ok.ensures.cases.0 c.in-Ok.ensures.cases.1 c.is_identifier.ensures refl

pub returns-in-Err : goal.returns-in-Err
returns-in-Err c = no_name _ c.in-Err.ensures.cases.0
