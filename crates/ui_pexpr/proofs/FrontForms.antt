-- Forms that the words before a place tell, by the tokens that the code looks at.
use Rattle.std.proofs.Common.{◌≡◌, ℕ, ◌+◌, Bool, true, false, ◌&&◌, List, [], ◌∷◌, length, take, drop, reverse, Option, sym, ap, ◌∙◌}
use Rattle.std.proofs.lemmas.List.{drop-drop, drop-map}
use Rattle.ui_scan.specs.declared.kind.Token.{Token}
use Rattle.ui_scan.specs.declared.kind.TokenKind.{TokenKind}
use Rattle.ui_grammar.specs.Word.{Word, word_of, words}
use Rattle.ui_pexpr.specs.Back.{opening, back_of}
use Rattle.ui_pexpr.specs.Faults.{first_kind, front_of, form_between, form_behind}
use Rattle.ui_pexpr.specs.Forms.{is_whole, field, in_struct, behind_field, form_by_kind, form_by_maybe, form_at}
use Rattle.ui_pexpr.specs.BackLaws.{kind_of_token, front_back, back_length}

-- ---- a field

module _ (bytes : List ℕ) (ts front : List Token) (from count : ℕ) (is : front ≡ take count (drop from ts)) where
  abbrev fw : List Word
  fw = front_of bytes ts from count

  abbrev back : List Word
  back = reverse fw

  opened_at : (semicolons : Bool) (opened : List Token) → back_of bytes opened ≡ opening semicolons 0 (back_of bytes front) → opening semicolons 0 back ≡ back_of bytes opened
  opened_at semicolons opened e = sym (e ∙ ap (opening semicolons 0) (front_back bytes ts front from count is))

  module _ (opened : List Token) (b : Bool) (e : back_of bytes opened ≡ opening false 0 (back_of bytes front)) (h : b ≡ in_struct (back_of bytes opened)) where
    in_struct_is : in_struct (opening false 0 back) ≡ b
    in_struct_is = ap in_struct (opened_at false opened e) ∙ sym h

    pub no_struct : b ≡ false → false ≡ behind_field fw back
    no_struct off = sym (ap (λ (c : Bool). c && is_whole (field (drop (length (opening true 0 back)) fw))) (in_struct_is ∙ off))

    pub field_is : b ≡ true → (start : List Token) (n : ℕ) (r : Bool) → back_of bytes start ≡ opening true 0 (back_of bytes front) → n ≡ length start → r ≡ is_whole (field (drop n fw)) → r ≡ behind_field fw back
    field_is on start n r at long h =
        let long_is : length (opening true 0 back) ≡ n = ap length (opened_at true start at) ∙ back_length bytes start ∙ sym long in
        h ∙ sym (ap (λ (c : Bool). c && is_whole (field (drop (length (opening true 0 back)) fw))) (in_struct_is ∙ on) ∙ ap (λ (n : ℕ). is_whole (field (drop n fw))) long_is)

-- ---- the word behind

by_rest : (bytes : List ℕ) (front ws : List Word) (rest : List Token) → ws ≡ words bytes rest → form_by_maybe front (first_kind rest) ≡ form_between form_at front ws
by_rest bytes front ws [] e = sym (ap (form_between form_at front) e)
by_rest bytes front ws (t ∷ rest) e = sym (ap (form_between form_at front) e ∙ ap (form_by_kind front) (kind_of_token bytes t))

pub kind_behind : (bytes : List ℕ) (ts rest : List Token) (from count : ℕ) (k : Option TokenKind) → rest ≡ drop (from + count) ts → k ≡ first_kind rest
    → form_by_maybe (front_of bytes ts from count) k ≡ form_behind form_at (drop from (words bytes ts)) count
kind_behind bytes ts rest from count k is e =
    let here : drop count (drop from (words bytes ts)) ≡ words bytes rest = drop-drop count from (words bytes ts) ∙ drop-map (word_of bytes) (from + count) ts ∙ ap (words bytes) (sym is) in
    ap (form_by_maybe (front_of bytes ts from count)) e ∙ by_rest bytes (front_of bytes ts from count) (drop count (drop from (words bytes ts))) rest here
