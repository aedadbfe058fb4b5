-- The literal tokens of a file have values.
use Rattle.std.proofs.Common.{◌≡◌, ℕ, suc, ◌+◌, ◌-◌, ◌<◌, ◌≤◌, Bool, true, false, cond, List, [], ◌∷◌, ◌++◌, length, take, drop, get_or, refl, sym, ap, ◌∙◌, subst, arith, ⊎_elim}
use Rattle.std.specs.Prelude.{Option, Some, None, is_some, ◌==◌, ◌&&◌, ◌||◌, not, slice_index, nat_lt, nat_eq, unwrap_or, All}
use Rattle.std.specs.List.{starts_with, list_all, AllByRecursion}
use Rattle.std.specs.Str.{bytes_eq}
use Rattle.std.proofs.lemmas.Bool.{cases_lt, cases_Bool, and_parts, not-true, true≢false, ltb-true, ltb-false}
use Rattle.std.proofs.lemmas.List.{length-drop, length-take, length-take-le, take-take, drop-take, get_or-take}
use Rattle.std.proofs.lemmas.List.Elements.{All-from_recursion}
use Rattle.ui_scan.specs.Digits.{number_of, greatest, whole}
use Rattle.ui_scan.specs.Letters.{begins_name, name_len}
use Rattle.ui_scan.specs.Literal.{string, rune, raw_string, string_piece, rune_piece, raw_end, body, IsBodyIn, rune_code}
use Rattle.ui_scan.specs.Number.{radix, number_end, number, whole_number, within, is_numeral, digits_in, begins_fraction}
use Rattle.ui_scan.specs.Piece.{lexeme, word, word_or_operator, is_decimal}
use Rattle.ui_scan.specs.Scan.{token_between, due_after}
use Rattle.ui_scan.specs.Table.{Row, keywords, spelled, word_kind, operators, operator, first_operator}
use Rattle.ui_scan.specs.Tokens.{place_at, IsLexeme, AreWords, ends_line, semicolon_before, with_semicolons, Tokens}
use Rattle.ui_scan.specs.Value.{int_value, inside, IsLiteral, is_literal, IsIfLiteral}
use Rattle.ui_scan.specs.declared.number.Radix.{Radix}
use Rattle.ui_scan.specs.declared.place.Place.{Place}
use Rattle.ui_scan.specs.declared.kind.Token.{Token}
use Rattle.ui_scan.specs.declared.literal.Body.{Body}
use Rattle.ui_scan.specs.declared.literal.Body.TheVariants as body
use Rattle.ui_scan.specs.declared.kind.TokenKind.TheVariants as kind
use Rattle.ui_scan.specs.declared.piece.Piece.{Piece}
use Rattle.ui_scan.specs.declared.piece.Piece.TheVariants as a
use Rattle.ui_scan.proofs.LiteralLaws.{body_in}
use Rattle.ui_scan.proofs.LongestLaws.{lexeme_read}
use Rattle.ui_scan.proofs.PieceLaws.{tested, number_end_in}

-- a token that is a literal is one by its text
abbrev LiteralIs : List ℕ → Piece → Type 0
LiteralIs bytes (a.Blank len ends) = Unit {0}
LiteralIs bytes (a.Token k len) = is_literal k ≡ true → IsLiteral k (take len bytes)
LiteralIs bytes (a.Fault k at) = Unit {0}
LiteralIs bytes (a.Open k) = Unit {0}

-- strings
string_is : (bytes : List ℕ) (b : Body) → IsBodyIn (length (drop 1 bytes)) b → 1 ≤ length bytes → LiteralIs bytes (string_piece b)
string_is bytes (body.Closed len) p le = λ _. omega (arith, p.0, p.1, length-drop 1 bytes, length-take (1 + len) bytes)
string_is bytes body.Newline p le = tt
string_is bytes (body.BadEscape at) p le = tt
string_is bytes body.Open p le = tt

raw_is : (bytes : List ℕ) → LiteralIs bytes (raw_string bytes)
unfolding raw_string
raw_is bytes =
    tested (LiteralIs bytes) (nat_lt (raw_end bytes) (length bytes)) _ _
    (λ closed. λ _. omega (arith, ltb-true (raw_end bytes) (length bytes) closed, length-take (raw_end bytes + 1) bytes)) (λ _. tt)

-- runes
inside_is : (b : ℕ) (bytes : List ℕ) (len : ℕ) → 1 ≤ len → len ≤ length bytes → inside (take (suc len) (b ∷ bytes)) ≡ take (len - 1) bytes
inside_is b bytes len low high =
    let long : length (take len bytes) ≡ len = length-take-le len bytes high in
    ap (λ n. take n (take len bytes)) (let e : suc (length (take len bytes)) - 2 ≡ len - 1 = omega (arith, long) in e)
    ∙ take-take (len - 1) len bytes (omega arith)

rune_is : (bytes : List ℕ) (b : Body) → IsBodyIn (length (drop 1 bytes)) b → 1 ≤ length bytes → LiteralIs bytes (rune_piece bytes b)
rune_is [] b p le = absurd (let x : ⊥ = omega arith in x)
rune_is (c ∷ bytes) (body.Closed len) p le =
    tested (LiteralIs (c ∷ bytes)) (is_some (rune_code (take (len - 1) bytes))) _ _
    (λ one. λ _. (
      omega (arith, p.0, p.1, length-take (1 + len) (c ∷ bytes)),
      ap (λ n. is_some (rune_code (inside (take n (c ∷ bytes))))) (let e : 1 + len ≡ suc len = omega arith in e)
          ∙ ap (λ t. is_some (rune_code t)) (inside_is c bytes len p.0 p.1) ∙ one,
    ))
    (λ _. tt)
rune_is (c ∷ bytes) body.Newline p le = tt
rune_is (c ∷ bytes) (body.BadEscape at) p le = tt
rune_is (c ∷ bytes) body.Open p le = tt

-- keywords, identifiers and operators are no literals
abbrev is_other : Row → Bool
is_other entry = not (is_literal entry.1)

spelled_other : (table : List Row) (text : List ℕ) → list_all is_other table ≡ true → is_literal (unwrap_or (spelled table text) kind.Ident) ≡ false
spelled_other [] text each = refl
spelled_other (entry ∷ table) text each =
    let parts = and_parts (is_other entry) (list_all is_other table) each in
    tested (λ o. is_literal (unwrap_or o kind.Ident) ≡ false) (bytes_eq entry.0 text) (Some entry.1) (spelled table text)
    (λ _. not-true (is_literal entry.1) parts.0) (λ _. spelled_other table text parts.1)

word_other : (text : List ℕ) → is_literal (word_kind text) ≡ false
unfolding word_kind keywords
word_other text = spelled_other keywords text refl

operator_is : (table : List Row) (bytes : List ℕ) → list_all is_other table ≡ true → LiteralIs bytes (first_operator table bytes)
operator_is [] bytes each = tt
operator_is (entry ∷ table) bytes each =
    let parts = and_parts (is_other entry) (list_all is_other table) each in
    tested (LiteralIs bytes) (starts_with nat_eq bytes entry.0) _ _
    (λ _. λ literal. absurd (true≢false (sym literal ∙ not-true (is_literal entry.1) parts.0))) (λ _. operator_is table bytes parts.1)

word_or_operator_is : (bytes : List ℕ) → LiteralIs bytes (word_or_operator bytes)
unfolding word operator operators
word_or_operator_is bytes =
    tested (LiteralIs bytes) (begins_name bytes) _ _
    (λ _. λ literal. absurd (true≢false (sym literal ∙ word_other (take (name_len bytes) bytes)))) (λ _. operator_is operators bytes refl)

-- numbers: their text has the same prefix
radix_by : ℕ → ℕ → Radix
radix_by first second =
    cond (first == 48)
    (cond (second == 120 || second == 88) (record { base = 16; len = 2 })
    (cond (second == 111 || second == 79) (record { base = 8; len = 2 })
    (cond (second == 98 || second == 66) (record { base = 2; len = 2 })
    (record { base = 8; len = 0 }))))
    (record { base = 10; len = 0 })

radix_is : (bytes : List ℕ) → radix bytes ≡ radix_by (slice_index bytes 0) (slice_index bytes 1)
unfolding radix radix_by
radix_is bytes = refl

short_radix : (first second : ℕ) → (radix_by first second).len ≡ 0 → radix_by first second ≡ radix_by first 0
unfolding radix_by
short_radix first second =
    tested (λ (r : Radix). r.len ≡ 0 → r ≡ radix_by first 0) (first == 48) _ _
    (λ zero_. tested (λ (r : Radix). r.len ≡ 0 → r ≡ radix_by first 0) (second == 120 || second == 88) _ _ (λ _. λ e. absurd (let x : ⊥ = omega arith in x))
    (λ _. tested (λ (r : Radix). r.len ≡ 0 → r ≡ radix_by first 0) (second == 111 || second == 79) _ _ (λ _. λ e. absurd (let x : ⊥ = omega arith in x))
    (λ _. tested (λ (r : Radix). r.len ≡ 0 → r ≡ radix_by first 0) (second == 98 || second == 66) _ _ (λ _. λ e. absurd (let x : ⊥ = omega arith in x))
    (λ _. λ e. sym (ap (λ t. cond t (record { base = 8; len = 0 }) (record { base = 10; len = 0 })) zero_)))))
    (λ other. λ e. sym (ap (λ t. cond t (record { base = 8; len = 0 }) (record { base = 10; len = 0 })) other))

no_prefix : (first second : ℕ) → (radix_by first second).len ≤ 1 → (radix_by first second).len ≡ 0
unfolding radix_by
no_prefix first second =
    tested (λ (r : Radix). r.len ≤ 1 → r.len ≡ 0) (first == 48) _ _
    (λ _. tested (λ (r : Radix). r.len ≤ 1 → r.len ≡ 0) (second == 120 || second == 88) _ _ (λ _. λ e. absurd (let x : ⊥ = omega arith in x))
    (λ _. tested (λ (r : Radix). r.len ≤ 1 → r.len ≡ 0) (second == 111 || second == 79) _ _ (λ _. λ e. absurd (let x : ⊥ = omega arith in x))
    (λ _. tested (λ (r : Radix). r.len ≤ 1 → r.len ≡ 0) (second == 98 || second == 66) _ _ (λ _. λ e. absurd (let x : ⊥ = omega arith in x))
    (λ _. λ e. refl))))
    (λ _. λ e. refl)

radix_of_text : (bytes : List ℕ) (end : ℕ) → 1 ≤ end → (radix bytes).len ≤ end → radix (take end bytes) ≡ radix bytes
radix_of_text bytes end low len =
    ⊎_elim
    (λ (two : 1 < end).
    radix_is (take end bytes) ∙ ap (λ x. radix_by x (get_or (take end bytes) 1 0)) (get_or-take end bytes 0 0 low)
    ∙ ap (radix_by (get_or bytes 0 0)) (get_or-take end bytes 1 0 two) ∙ sym (radix_is bytes))
    (λ (one : end ≤ 1).
    let is : end ≡ 1 = omega arith in
    let short : (radix_by (get_or bytes 0 0) (get_or bytes 1 0)).len ≡ 0 =
    no_prefix (get_or bytes 0 0) (get_or bytes 1 0) (omega (arith, ap (λ (r : Radix). r.len) (radix_is bytes))) in
    ap (λ n. radix (take n bytes)) is ∙ radix_is (take 1 bytes) ∙ ap (λ x. radix_by x (get_or (take 1 bytes) 1 0)) (get_or-take 1 bytes 0 0 (omega arith))
    ∙ ap (radix_by (get_or bytes 0 0)) (past bytes) ∙ sym (short_radix (get_or bytes 0 0) (get_or bytes 1 0) short) ∙ sym (radix_is bytes))
    (cases_lt 1 end)
  where
    past : (bytes : List ℕ) → get_or (take 1 bytes) 1 0 ≡ 0
    past [] = refl
    past (b ∷ bytes) = refl

whole_small : (base n : ℕ) (digits : List ℕ) → whole base digits ≡ Some n → number_of base digits ≤ greatest
unfolding whole
whole_small base n digits found =
    ⊎_elim
    (λ past. absurd (let e : None ≡ Some n = sym (ap (λ t. cond t None (Some (number_of base digits))) past) ∙ found in cc))
    (λ small. ltb-false greatest (number_of base digits) small)
    (cases_Bool (nat_lt greatest (number_of base digits)))

int_text : (bytes : List ℕ) (end : ℕ) → 1 ≤ end → (radix bytes).len ≤ end
    → int_value (take end bytes) ≡ number_of (radix bytes).base (digits_in (radix bytes) bytes end)
int_text bytes end low len =
    let same = radix_of_text bytes end low len in
    let e : (radix bytes).len + (end - (radix bytes).len) ≡ end = omega arith in
    ap (λ r. number_of r.base (drop r.len (take end bytes))) same
    ∙ ap (λ n. number_of (radix bytes).base (drop (radix bytes).len (take n bytes))) (sym e)
    ∙ ap (number_of (radix bytes).base) (drop-take (radix bytes).len (end - (radix bytes).len) bytes)

number_is : (bytes : List ℕ) → is_decimal (slice_index bytes 0) ≡ true → LiteralIs bytes (number bytes)
unfolding number whole_number
number_is bytes decimal =
    let r = radix bytes in
    let end = number_end r bytes in
    let ends = number_end_in bytes decimal in
    tested (LiteralIs bytes) (begins_fraction (slice_index bytes end)) _ _ (λ _. tt)
    (λ _. tested (LiteralIs bytes) (slice_index bytes end == 105) _ _ (λ _. tt)
    (λ _. tested (LiteralIs bytes) (is_numeral r.base (digits_in r bytes end)) _ _
    (λ _. by_whole end ends.0 (omega arith) (whole r.base (digits_in r bytes end)) refl) (λ _. tt)))
  where
    by_whole : (end : ℕ) → 1 ≤ end → (radix bytes).len ≤ end → (o : Option ℕ) → whole (radix bytes).base (digits_in (radix bytes) bytes end) ≡ o → LiteralIs bytes (within end o)
    by_whole end low len None is = tt
    by_whole end low len (Some n) is = λ _. omega (arith, int_text bytes end low len, whole_small (radix bytes).base n (digits_in (radix bytes) bytes end) is)

lexeme_is : (bytes : List ℕ) → 1 ≤ length bytes → LiteralIs bytes (lexeme bytes)
unfolding lexeme string rune
lexeme_is bytes le =
    let b = slice_index bytes 0 in
    tested (LiteralIs bytes) (b == 34) _ _ (λ _. string_is bytes (body 34 (drop 1 bytes)) (body_in 34 (drop 1 bytes)) le)
    (λ _. tested (LiteralIs bytes) (b == 39) _ _ (λ _. rune_is bytes (body 39 (drop 1 bytes)) (body_in 39 (drop 1 bytes)) le)
    (λ _. tested (LiteralIs bytes) (b == 96) _ _ (λ _. raw_is bytes)
    (λ _. tested (LiteralIs bytes) (is_decimal b) _ _ (λ decimal. number_is bytes decimal)
    (λ _. tested (LiteralIs bytes) (b == 46 && is_decimal (slice_index bytes 1)) _ _ (λ _. tt)
    (λ _. word_or_operator_is bytes)))))

-- a token of a file that is a literal has a value
lexeme_value : (bytes : List ℕ) (t : Token) → IsLexeme bytes t → IsIfLiteral bytes t
lexeme_value bytes t token = λ literal.
    let start : t.start < length bytes = omega (arith, token.some_bytes, token.in_bytes) in
    let is : LiteralIs (drop t.start bytes) (a.Token t.kind (t.end - t.start)) =
    subst (LiteralIs (drop t.start bytes)) (lexeme_read bytes t token) (lexeme_is (drop t.start bytes) (omega (arith, length-drop t.start bytes))) in
    record { ordered = omega (arith, token.some_bytes); within = token.in_bytes; literal = is literal }

open_value : (bytes : List ℕ) (t : Token) → is_literal t.kind ≡ false → IsIfLiteral bytes t
open_value bytes t other = λ literal. absurd (true≢false (sym literal ∙ other))

joined_values : (bytes : List ℕ) (b : Bool) (due : Option Place) (ts : List Token) → AllByRecursion (IsIfLiteral bytes) ts → AllByRecursion (IsIfLiteral bytes) (semicolon_before b due ++ ts)
joined_values bytes true None ts each = each
joined_values bytes true (Some p) ts each = (open_value bytes (token_between kind.Semi p p) refl, each)
joined_values bytes false due ts each = each

words_values : (bytes : List ℕ) (due : Option Place) (at : ℕ) (ws : List Token) → AreWords bytes at ws → AllByRecursion (IsIfLiteral bytes) (with_semicolons bytes due at ws)
words_values bytes due at [] words = tt
words_values bytes due at (t ∷ []) words =
    joined_values bytes (ends_line bytes at t) due (t ∷ []) (open_value bytes t (ap is_literal words.1.kind), tt)
words_values bytes due at (t ∷ u ∷ ts) words =
    joined_values bytes (ends_line bytes at t) due _ (lexeme_value bytes t words.1, words_values bytes (due_after t.kind (place_at bytes t.end)) t.end (u ∷ ts) words.2)

pub literal_tokens : (bytes : List ℕ) (ts : List Token) → Tokens bytes ts → All (IsIfLiteral bytes) ts
literal_tokens bytes ts found =
    All-from_recursion (IsIfLiteral bytes) ts
    (subst (AllByRecursion (IsIfLiteral bytes)) (sym found.tokens.tokens) (words_values bytes None _ found.tokens.words found.tokens.stand))
