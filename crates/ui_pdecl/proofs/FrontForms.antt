-- Forms that the words before a place tell, by the tokens that the code looks at.
use Rattle.std.proofs.Common.{◌≡◌, ℕ, Bool, true, false, ◌&&◌, List, length, take, drop, reverse, Option, sym, ap, ◌∙◌}
use Rattle.ui_scan.specs.declared.kind.Token.{Token}
use Rattle.ui_scan.specs.declared.kind.TokenKind.TheVariants as kind
use Rattle.ui_grammar.specs.Word.{Word}
use Rattle.ui_parse.specs.Reader.{tail}
use Rattle.ui_stmts.specs.Decls.{type_params_apart}
use Rattle.ui_pexpr.specs.declared.fault.Form.{Form}
use Rattle.ui_pexpr.specs.declared.fault.Form.TheVariants.{DotImport}
use Rattle.ui_pexpr.specs.Back.{last_is, opening, back_of}
use Rattle.ui_pexpr.specs.BackLaws.{front_back, back_length}
use Rattle.ui_pexpr.specs.Faults.{front_of}
use Rattle.ui_pexpr.specs.Forms.{is_whole, form_if}
use Rattle.ui_pdecl.specs.Forms.{begins_spec, opens_params, params_from, behind_params}

module _ (bytes : List ℕ) (ts front : List Token) (from count : ℕ) (is : front ≡ take count (drop from ts)) where
  abbrev fw : List Word
  fw = front_of bytes ts from count

  abbrev back : List Word
  back = reverse fw

  same : back_of bytes front ≡ back
  same = front_back bytes ts front from count is

  -- ---- parameters

  module _ (b : Bool) (h : b ≡ last_is kind.RBracket (back_of bytes front)) where
    ends_is : last_is kind.RBracket back ≡ b
    ends_is = ap (last_is kind.RBracket) (sym same) ∙ sym h

    pub no_bracket : b ≡ false → false ≡ behind_params fw back
    no_bracket off = sym (ap (λ (c : Bool). c && params_from fw (opening false 0 (tail back))) (ends_is ∙ off))

    module _ (on : b ≡ true) (before opened : List Token) (o : Bool) (cut : back_of bytes before ≡ tail (back_of bytes front)) (e : back_of bytes opened ≡ opening false 0 (back_of bytes before)) (k : o ≡ opens_params (back_of bytes opened)) where
      at : opening false 0 (tail back) ≡ back_of bytes opened
      at = ap (λ (v : List Word). opening false 0 (tail v)) (sym same) ∙ ap (opening false 0) (sym cut) ∙ sym e

      by_params : behind_params fw back ≡ (o && is_whole (type_params_apart 199 (drop (length (back_of bytes opened)) fw)))
      by_params = ap (λ (c : Bool). c && params_from fw (opening false 0 (tail back))) (ends_is ∙ on) ∙ ap (params_from fw) at
          ∙ ap (λ (c : Bool). c && is_whole (type_params_apart 199 (drop (length (back_of bytes opened)) fw))) (sym k)

      pub no_params : o ≡ false → false ≡ behind_params fw back
      no_params off = sym (by_params ∙ ap (λ (c : Bool). c && is_whole (type_params_apart 199 (drop (length (back_of bytes opened)) fw))) off)

      pub params_are : o ≡ true → (n : ℕ) (r : Bool) → n ≡ length opened → r ≡ is_whole (type_params_apart 199 (drop n fw)) → r ≡ behind_params fw back
      params_are open_is n r long h =
          h ∙ ap (λ (n : ℕ). is_whole (type_params_apart 199 (drop n fw))) (long ∙ sym (back_length bytes opened))
          ∙ sym (by_params ∙ ap (λ (c : Bool). c && is_whole (type_params_apart 199 (drop (length (back_of bytes opened)) fw))) open_is)

  -- ---- an import's name

  pub dot_is : (b : Bool) (o : Option Form) → b ≡ begins_spec kind.Import (back_of bytes front) → o ≡ form_if b DotImport → o ≡ form_if (begins_spec kind.Import back) DotImport
  dot_is b o h e = e ∙ ap (λ (b : Bool). form_if b DotImport) (h ∙ ap (begins_spec kind.Import) same)
