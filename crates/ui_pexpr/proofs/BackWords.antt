-- Words before a place, the last first, by the tokens that the code looks at.
use Rattle.std.proofs.Common.{◌≡◌, ◌≤◌, ℕ, suc, ◌+◌, ◌-◌, Bool, List, [], ◌∷◌, ◌++◌, length, take, drop, reverse, Option, Some, None, refl, sym, ap, ◌∙◌, arith}
use Rattle.std.proofs.lemmas.List.{map_push, reverse-append, drop-drop, drop-take}
use Rattle.ui_scan.specs.declared.kind.Token.{Token}
use Rattle.ui_scan.specs.declared.kind.TokenKind.{TokenKind}
use Rattle.ui_grammar.specs.Word.{Word, word_of, words}
use Rattle.ui_parse.specs.Kind.{is_kind}
use Rattle.ui_parse.specs.Reader.{tail}
use Rattle.ui_pexpr.specs.Back.{last_is, next_level, or_here, opening, back_of}
use Rattle.ui_pexpr.specs.BackLaws.{kind_of_token}

pub back_push : (bytes : List ℕ) (before : List Token) (t : Token) → back_of bytes (before ++ (t ∷ [])) ≡ word_of bytes t ∷ back_of bytes before
back_push bytes before t = ap reverse (map_push (word_of bytes) before t) ∙ reverse-append (words bytes before) (word_of bytes t ∷ [])

module _ (bytes : List ℕ) (front before : List Token) (t : Token) (is : front ≡ before ++ (t ∷ [])) where
  pub back_is : back_of bytes front ≡ word_of bytes t ∷ back_of bytes before
  back_is = ap (back_of bytes) is ∙ back_push bytes before t

  pub last_kind : (k : TokenKind) → is_kind t.kind k ≡ last_is k (back_of bytes front)
  last_kind k = sym (ap (last_is k) back_is ∙ ap (λ (l : TokenKind). is_kind l k) (kind_of_token bytes t))

  pub tail_back : back_of bytes before ≡ tail (back_of bytes front)
  tail_back = sym (ap tail back_is)

  module _ (semicolons : Bool) (n : ℕ) where
    turn : (o : Option ℕ) → next_level semicolons n t.kind ≡ o → opening semicolons n (back_of bytes front) ≡ or_here o (back_of bytes front) (λ m. opening semicolons m (back_of bytes before))
    turn o e = ap (opening semicolons n) back_is
        ∙ ap (λ (o : Option ℕ). or_here o (word_of bytes t ∷ back_of bytes before) (λ m. opening semicolons m (back_of bytes before))) (ap (next_level semicolons n) (kind_of_token bytes t) ∙ e)
        ∙ ap (λ (here : List Word). or_here o here (λ m. opening semicolons m (back_of bytes before))) (sym back_is)

    pub goes_back : (m : ℕ) → next_level semicolons n t.kind ≡ Some m → opening semicolons m (back_of bytes before) ≡ opening semicolons n (back_of bytes front)
    goes_back m e = sym (turn (Some m) e)

    pub stops_here : next_level semicolons n t.kind ≡ None → back_of bytes front ≡ opening semicolons n (back_of bytes front)
    stops_here e = sym (turn None e)

-- ---- parts of the front

-- words of a front, from one of them on
pub between : (ws : List Word) (from count start : ℕ) → start ≤ count → take (count - start) (drop (from + start) ws) ≡ drop start (take count (drop from ws))
between ws from count start le =
    let e : start + (count - start) ≡ count = omega (arith, le) in
    ap (take (count - start)) (sym (drop-drop start from ws)) ∙ sym (drop-take start (count - start) (drop from ws)) ∙ ap (λ (n : ℕ). drop start (take n (drop from ws))) e

-- ---- the last token

pub record Last (ts : List Token) : Type 0 where
  pub token : Token
  pub is : ts ≡ take (length ts - 1) ts ++ (token ∷ [])

pub last_of : (ts : List Token) → 1 ≤ length ts → Last ts
last_of [] le = absurd (omega arith)
last_of (t ∷ []) le = record { token = t; is = refl }
last_of (t ∷ u ∷ ts) le =
    let l = last_of (u ∷ ts) (omega arith) in
    let e : length (t ∷ u ∷ ts) - 1 ≡ suc (length (u ∷ ts) - 1) = omega arith in
    record { token = l.token; is = ap (λ (v : List Token). t ∷ v) l.is ∙ sym (ap (λ (n : ℕ). take n (t ∷ u ∷ ts) ++ (l.token ∷ [])) e) }
