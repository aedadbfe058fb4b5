-- The end of the text is the last token, and no other is.
use Rattle.std.proofs.Common.{◌≡◌, ℕ, ◌-◌, Bool, true, false, cond, List, [], ◌∷◌, ◌++◌, take, drop, Option, Some, None, refl, sym, ap, subst, ◌∙◌}
use Rattle.std.specs.Str.{bytes_eq}
use Rattle.ui_base.specs.declared.value.Spot.{Spot}
use Rattle.ui_scan.specs.declared.kind.Token.{Token}
use Rattle.ui_scan.specs.declared.kind.TokenKind.{TokenKind}
use Rattle.ui_scan.specs.declared.kind.TokenKind.TheVariants.{Semi, End}
use Rattle.ui_scan.specs.declared.place.Place.{Place}
use Rattle.ui_scan.specs.Table.{Row, keywords, operators, spelled}
use Rattle.ui_scan.specs.Language.{IsToken, identifier, keyword, operator, int, rune, string, raw_string}
use Rattle.ui_scan.specs.Scan.{token_between, due_after}
use Rattle.ui_scan.specs.Tokens.{place_at, IsLexeme, AreWords, ends_line, semicolon_before, with_semicolons, Tokens}
use Rattle.ui_grammar.specs.Word.{Word, mark, word_of, words}
use Rattle.ui_parse.specs.Kind.{is_kind}
use Rattle.ui_parse.specs.Reader.{tail}
use Rattle.ui_pexpr.specs.Back.{kind_at}
use Rattle.ui_pexpr.specs.BackLaws.{kind_of_token}

-- ---- no text spells it

abbrev no_ends : List Row → Bool
no_ends [] = true
no_ends (e ∷ es) = cond (is_kind e.1 End) false (no_ends es)

step : (b k : Bool) (l : TokenKind) (o : Option TokenKind) (rest : Bool) → is_kind l End ≡ k → cond k false rest ≡ true → cond b (Some l) o ≡ Some End → (rest ≡ true → o ≡ Some End → ⊥) → ⊥
step b true l o rest is fine h go = absurd cc
step true false l o rest is fine h go =
    let same : l ≡ End = cc in
    let clash : true ≡ false = sym (ap (λ (k : TokenKind). is_kind k End) same) ∙ is in
    absurd cc
step false false l o rest is fine h go = go fine h

not_spelled : (table : List Row) (text : List ℕ) → no_ends table ≡ true → spelled table text ≡ Some End → ⊥
not_spelled [] text fine h = absurd cc
not_spelled (e ∷ es) text fine h = step (bytes_eq e.0 text) (is_kind e.1 End) e.1 (spelled es text) (no_ends es) refl fine h (not_spelled es text)

no_keyword : no_ends keywords ≡ true
unfolding keywords
no_keyword = refl

no_operator : no_ends operators ≡ true
unfolding operators
no_operator = refl

no_token : (text : List ℕ) → IsToken End text → ⊥
no_token text (identifier e h) = absurd cc
no_token text (keyword e) = not_spelled keywords text no_keyword e
no_token text (operator e) = not_spelled operators text no_operator e
no_token text (int e h) = absurd cc
no_token text (rune e h) = absurd cc
no_token text (string e h) = absurd cc
no_token text (raw_string e h) = absurd cc

-- ---- so it is the last

abbrev NotEnd : Token → Type 0
NotEnd t = t.kind ≡ End → ⊥

abbrev pub EndsLast : List Token → Type 0
EndsLast [] = Unit {0}
EndsLast (t ∷ []) = Unit {0}
EndsLast (t ∷ u ∷ ts) = NotEnd t × EndsLast (u ∷ ts)

before : (t : Token) (ts : List Token) → NotEnd t → EndsLast ts → EndsLast (t ∷ ts)
before t [] apart h = tt
before t (u ∷ ts) apart h = (apart, h)

lexeme : (bytes : List ℕ) (t : Token) → IsLexeme bytes t → NotEnd t
lexeme bytes t is e =
    let text : List ℕ = take (t.end - t.start) (drop t.start bytes) in
    no_token text (subst (λ (k : TokenKind). IsToken k text) e is.longest.token)

joined : (b : Bool) (due : Option Place) (ts : List Token) → EndsLast ts → EndsLast (semicolon_before b due ++ ts)
joined true None ts h = h
joined true (Some p) ts h = before (token_between Semi p p) ts (λ e. absurd cc) h
joined false due ts h = h

in_words : (bytes : List ℕ) (due : Option Place) (at : ℕ) (ws : List Token) → AreWords bytes at ws → EndsLast (with_semicolons bytes due at ws)
in_words bytes due at [] found = tt
in_words bytes due at (t ∷ []) found = joined (ends_line bytes at t) due (t ∷ []) tt
in_words bytes due at (t ∷ u ∷ ts) found =
    joined (ends_line bytes at t) due _ (before t _ (lexeme bytes t found.1) (in_words bytes (due_after t.kind (place_at bytes t.end)) t.end (u ∷ ts) found.2))

pub ends_last : (bytes : List ℕ) (ts : List Token) → Tokens bytes ts → EndsLast ts
ends_last bytes ts found = subst EndsLast (sym found.tokens.tokens) (in_words bytes None _ found.tokens.words found.tokens.stand)

-- ---- nothing stands behind it

no_words : (x rest : List Word) (w : Word) → [] ≡ x ++ (w ∷ rest) → ⊥
no_words [] rest w e = absurd cc
no_words (v ∷ x) rest w e = absurd cc

pub behind_end : (bytes : List ℕ) (ts : List Token) → EndsLast ts → (x rest : List Word) (s : Spot) → words bytes ts ≡ x ++ (mark End s ∷ rest) → rest ≡ []
behind_end bytes [] h x rest s e = absurd (no_words x rest (mark End s) e)
behind_end bytes (t ∷ []) h [] rest s e = sym (ap tail e)
behind_end bytes (t ∷ []) h (w ∷ x) rest s e = absurd (no_words x rest (mark End s) (ap tail e))
behind_end bytes (t ∷ u ∷ ts) h [] rest s e =
    let same : word_of bytes t ≡ mark End s = cc in
    absurd (h.0 (sym (kind_of_token bytes t) ∙ ap kind_at same))
behind_end bytes (t ∷ u ∷ ts) h (w ∷ x) rest s e = behind_end bytes (u ∷ ts) h.1 x rest s (ap tail e)
