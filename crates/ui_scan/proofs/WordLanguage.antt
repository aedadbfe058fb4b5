-- Identifiers, keywords and operators, as they are spelled and as they are read.
use Rattle.std.proofs.Common.{◌≡◌, ℕ, zero, suc, ◌+◌, ◌<◌, ◌≤◌, Bool, true, false, cond, List, [], ◌∷◌, ◌++◌, length, take, drop, refl, sym, ap, ◌∙◌, subst, arith, append_assoc, ⊎_elim}
use Rattle.std.specs.Prelude.{Option, Some, None, ◌==◌, ◌&&◌, ◌||◌, not, slice_index, nat_le, unwrap_or, encode_utf8, encode_utf8_all}
use Rattle.std.specs.Int.{is_in_range}
use Rattle.std.specs.List.{list_all}
use Rattle.std.specs.Str.{bytes_eq}
use Rattle.std.specs.Char.{len_utf8}
use lib.Utf8.{scalar, scalars}
use Rattle.std.proofs.lemmas.Bool.{cases_Bool, cases_lt, and_parts, and_from, and_left, and_right, or_from, or_parts, not-true, not_from_false, true≢false, leb-true, lt-ltb, lt-leb, ne_eqb, cond-true, cond-false, agree_below_at}
use Rattle.std.proofs.lemmas.List.{take_at, length-append, length-drop, drop_at}
use Rattle.std.proofs.lemmas.Slice.Eq.{bytes_eq-Decides}
use Rattle.std.proofs.lemmas.Str.{length-encode, len_utf8_bounds, encode_ascii, char_from_byte}
use Rattle.std.proofs.Math.Seq.{take-append-add}
use Rattle.ucd_category.specs.GeneralCategory.{general_category}
use Rattle.ucd_category.specs.GeneralCategoryRows.{general_category_rows}
use Rattle.ucd_table.specs.Rows.{value_in}
use Rattle.ui_base.specs.Chars.{is_letter, is_digit}
use Rattle.ui_base.specs.Names.{continues, is_identifier}
use Rattle.ui_scan.specs.Language.{IsIdentifier, IsToken}
use Rattle.ui_scan.specs.Language.IsToken.{identifier, keyword}
use Rattle.ui_scan.specs.Letters.{front_char, passes, begins_name, name_len}
use Rattle.ui_scan.specs.Piece.{lexeme, word, word_or_operator, is_decimal}
use Rattle.ui_scan.specs.Table.{Row, keywords, spelled, word_kind}
use Rattle.ui_scan.specs.declared.kind.TokenKind.{TokenKind}
use Rattle.ui_scan.specs.declared.kind.TokenKind.TheVariants as k
use Rattle.ui_scan.specs.declared.kind.ScanKind.TheVariants as fault
use Rattle.ui_scan.specs.declared.piece.Piece.TheVariants as a
use Rattle.ui_scan.proofs.LetterLaws.{front_char_begins, front_char_within, front_char-encode, drop_front_char, name_len_more, name_len_done}
use Rattle.ui_scan.proofs.Readings.{Reads}

-- bytes that begin neither a number nor a literal in quotes
abbrev pub is_word_byte : ℕ → Bool
is_word_byte b = not (b == 34 || (b == 39 || (b == 96 || is_decimal b)))

pub lexeme_word : (b : ℕ) (bytes : List ℕ) → is_word_byte b ≡ true
    → lexeme (b ∷ bytes) ≡ cond (b == 46 && is_decimal (slice_index bytes 0)) (a.Fault fault.FloatLiteral 0) (word_or_operator (b ∷ bytes))
unfolding lexeme
lexeme_word b bytes is =
    let p = or_parts (b == 34) (b == 39 || (b == 96 || is_decimal b)) (not-true _ is) in
    let q = or_parts (b == 39) (b == 96 || is_decimal b) p.1 in
    let r = or_parts (b == 96) (is_decimal b) q.1 in
    cond-false _ _ _ p.0 ∙ cond-false _ _ _ q.0 ∙ cond-false _ _ _ r.0 ∙ cond-false _ _ _ r.1

-- bytes that a name may begin with
abbrev is_name_byte : ℕ → Bool
is_name_byte b = is_word_byte b && not (b == 46)

abbrev is_lower : ℕ → Bool
is_lower b = is_in_range 97 122 b

letter_byte : (b : ℕ) → b < 128 → is_letter b ≡ true → is_name_byte b ≡ true
unfolding is_letter general_category value_in general_category_rows
letter_byte b low letter =
    ap (λ t. not t || is_name_byte b) (sym letter) ∙ agree_below_at (λ c. not (is_letter c) || is_name_byte c) (λ c. true) 128 b refl low

lower_letter : (b : ℕ) → is_lower b ≡ true → is_letter b ≡ true
unfolding is_letter general_category value_in general_category_rows
lower_letter b lower =
    let low : b < 128 = omega (arith, leb-true b 122 (and_parts (nat_le 97 b) (nat_le b 122) lower).1) in
    ap (λ t. not t || is_letter b) (sym lower) ∙ agree_below_at (λ c. not (is_lower c) || is_letter c) (λ c. true) 128 b refl low

high_byte : (b : ℕ) → 128 ≤ b → is_name_byte b ≡ true
high_byte b high =
    let decimal : is_decimal b ≡ false = and_right (nat_le 48 b) (nat_le b 57) (lt-leb b 57 (omega arith)) in
    and_from (is_word_byte b) (not (b == 46))
    (not_from_false _ (or_from (b == 34) _ (ne_eqb b 34 (λ e. omega arith)) (or_from (b == 39) _ (ne_eqb b 39 (λ e. omega arith)) (or_from (b == 96) _ (ne_eqb b 96 (λ e. omega arith)) decimal))))
    (not_from_false _ (ne_eqb b 46 (λ e. omega arith)))

first_of_letter : (b : ℕ) (bytes others : List ℕ) (c : ℕ) → b ∷ bytes ≡ encode_utf8 c ++ others → is_letter c ≡ true → is_name_byte b ≡ true
first_of_letter b bytes others c spelling letter = ⊎_elim
    (λ low. letter_byte b low (subst (λ x. is_letter x ≡ true) (char_from_byte (b ∷ bytes) others c spelling low (omega arith)) letter))
    (λ (high : 128 ≤ b). high_byte b high)
    (cases_lt b 128)

-- where a letter begins, a word is read
letter_reads : (bytes others : List ℕ) (c : ℕ) → bytes ≡ encode_utf8 c ++ others → scalar c ≡ true → is_letter c ≡ true → lexeme bytes ≡ word bytes
letter_reads [] others c spelling value letter =
    absurd (omega (arith, ap length spelling, length-append (encode_utf8 c) others, length-encode c, len_utf8_bounds c))
letter_reads (b ∷ bytes) others c spelling value letter =
    let first = and_parts (is_word_byte b) (not (b == 46)) (first_of_letter b bytes others c spelling letter) in
    let begins : begins_name (b ∷ bytes) ≡ true = ap (passes is_letter) (ap front_char spelling ∙ front_char-encode c others value) ∙ letter in
    lexeme_word b bytes first.0 ∙ cond-false _ _ _ (and_left (b == 46) (is_decimal (slice_index bytes 0)) (not-true (b == 46) first.1))
    ∙ cond-true _ _ _ begins

-- no letters and digits at the front have more bytes than the name that is read
longest_name : (cs others : List ℕ) → scalars cs ≡ true → list_all continues cs ≡ true → length (encode_utf8_all cs) ≤ name_len (encode_utf8_all cs ++ others)
longest_name [] others values each = omega arith
longest_name (c ∷ cs) others values each =
    let v = and_parts (scalar c) (scalars cs) values in
    let e = and_parts (continues c) (list_all continues cs) each in
    let text = encode_utf8 c ++ (encode_utf8_all cs ++ others) in
    let whole : (encode_utf8 c ++ encode_utf8_all cs) ++ others ≡ text = append_assoc (encode_utf8 c) (encode_utf8_all cs) others in
    let more = name_len_more text c (front_char-encode c (encode_utf8_all cs ++ others) v.0) e.0 in
    let rest : drop (len_utf8 c) text ≡ encode_utf8_all cs ++ others = drop_at (encode_utf8 c) (encode_utf8_all cs ++ others) (len_utf8 c) (length-encode c) in
    let far = longest_name cs others v.1 e.1 in
    omega (arith, ap name_len whole, more, ap name_len rest, far, length-append (encode_utf8 c) (encode_utf8_all cs), length-encode c)

-- a word at the front
word_reads : (kind : TokenKind) (chars text rest : List ℕ) → text ≡ encode_utf8_all chars → scalars chars ≡ true → is_identifier chars ≡ true → kind ≡ word_kind text
    → Reads (text ++ rest) kind (length text) (lexeme (text ++ rest))
unfolding word
word_reads kind [] text rest spelling values letters is = absurd (true≢false (sym letters))
word_reads kind (c ∷ cs) text rest spelling values letters is =
    let bytes = text ++ rest in
    let v = and_parts (scalar c) (scalars cs) values in
    let l = and_parts (is_letter c) (list_all continues (c ∷ cs)) letters in
    let cut : bytes ≡ encode_utf8 c ++ (encode_utf8_all cs ++ rest) = ap (λ t. t ++ rest) spelling ∙ append_assoc (encode_utf8 c) (encode_utf8_all cs) rest in
    let reads = letter_reads bytes (encode_utf8_all cs ++ rest) c cut v.0 l.0 in
    let far = longest_name (c ∷ cs) rest values l.1 in
    subst (Reads bytes kind (length text)) (sym reads) (
      omega (arith, far, ap length spelling, ap (λ t. name_len (t ++ rest)) spelling),
      (λ same. is ∙ ap word_kind (sym (ap (λ n. take n bytes) (sym same) ∙ take_at text rest (length text) refl))),
    )

pub identifier_reads : (kind : TokenKind) (text rest : List ℕ) → kind ≡ k.Ident → IsIdentifier text → Reads (text ++ rest) kind (length text) (lexeme (text ++ rest))
unfolding word_kind
identifier_reads kind text rest is it =
    word_reads kind it.chars text rest it.spelling it.values it.letters (is ∙ sym (ap (λ o. unwrap_or o k.Ident) it.no_keyword))

-- what each entry of a table passes
pub spelled_passes : (p : List ℕ → Bool) (table : List Row) (text : List ℕ) (kind : TokenKind) → list_all (λ (entry : Row). p entry.0) table ≡ true
    → spelled table text ≡ Some kind → p text ≡ true
spelled_passes p [] text kind each is = absurd (cc)
spelled_passes p (entry ∷ table) text kind each is =
    let parts = and_parts (p entry.0) (list_all (λ (e : Row). p e.0) table) each in
    ⊎_elim
    (λ found. subst (λ t. p t ≡ true) ((bytes_eq-Decides entry.0 text).0 found) parts.0)
    (λ other. spelled_passes p table text kind parts.1 (sym (cond-false _ _ _ other) ∙ is))
    (cases_Bool (bytes_eq entry.0 text))

-- lower case letters, of which there are some
abbrev is_lower_word : List ℕ → Bool
is_lower_word text = not (length text == 0) && list_all is_lower text

pub low_scalar : (b : ℕ) → b < 128 → scalar b ≡ true
low_scalar b low = cond-true _ _ _ (lt-ltb b 55296 (omega arith))

record LowerIs (text : List ℕ) : Type 0 where
  spelling : text ≡ encode_utf8_all text
  values : scalars text ≡ true
  each : list_all continues text ≡ true

lower_is : (text : List ℕ) → list_all is_lower text ≡ true → LowerIs text
lower_is [] lower = record { spelling = refl; values = refl; each = refl }
lower_is (b ∷ text) lower =
    let parts = and_parts (is_lower b) (list_all is_lower text) lower in
    let low : b < 128 = omega (arith, leb-true b 122 (and_parts (nat_le 97 b) (nat_le b 122) parts.0).1) in
    let others = lower_is text parts.1 in
    record {
      spelling = ap (λ t. b ∷ t) others.spelling ∙ sym (ap (λ t. t ++ encode_utf8_all text) (encode_ascii b low));
      values = and_from (scalar b) (scalars text) (low_scalar b low) others.values;
      each = and_from (continues b) (list_all continues text) (ap (λ t. t || is_digit b) (lower_letter b parts.0)) others.each;
    }

lower_identifier : (text : List ℕ) → is_lower_word text ≡ true → is_identifier text ≡ true
lower_identifier [] lower = absurd (true≢false (sym lower))
lower_identifier (b ∷ text) lower =
    let each = (and_parts (not (length (b ∷ text) == 0)) (list_all is_lower (b ∷ text)) lower).1 in
    and_from (is_letter b) (list_all continues (b ∷ text)) (lower_letter b (and_parts (is_lower b) (list_all is_lower text) each).0) (lower_is (b ∷ text) each).each

keyword_lower : (text : List ℕ) (kind : TokenKind) → spelled keywords text ≡ Some kind → is_lower_word text ≡ true
unfolding keywords
keyword_lower text kind is = spelled_passes is_lower_word keywords text kind refl is

pub keyword_reads : (kind : TokenKind) (text rest : List ℕ) → spelled keywords text ≡ Some kind → Reads (text ++ rest) kind (length text) (lexeme (text ++ rest))
unfolding word_kind
keyword_reads kind text rest is =
    let lower = keyword_lower text kind is in
    let it = lower_is text (and_parts (not (length text == 0)) (list_all is_lower text) lower).1 in
    word_reads kind text text rest it.spelling it.values (lower_identifier text lower) (sym (ap (λ o. unwrap_or o k.Ident) is))

-- the name that is read is letters and digits
record NameIs (text : List ℕ) : Type 0 where
  chars : List ℕ
  spelling : text ≡ encode_utf8_all chars
  values : scalars chars ≡ true
  each : list_all continues chars ≡ true

no_name : (bytes : List ℕ) → passes continues (front_char bytes) ≡ false → NameIs (take (name_len bytes) bytes)
no_name bytes done = record { chars = []; spelling = ap (λ n. take n bytes) (name_len_done bytes done); values = refl; each = refl }

-- what is read of a name, from its first character on
name_step : (bytes : List ℕ) (c : ℕ) → front_char bytes ≡ Some c → continues c ≡ true
    → take (name_len bytes) bytes ≡ encode_utf8 c ++ take (name_len (drop (len_utf8 c) bytes)) (drop (len_utf8 c) bytes)
name_step bytes c found more =
    let b = front_char_begins bytes c found in
    let n = name_len (drop (len_utf8 c) bytes) in
    let e : name_len bytes ≡ length (encode_utf8 c) + n = name_len_more bytes c found more ∙ ap (λ m. m + n) (sym (length-encode c)) in
    ap (λ m. take m bytes) e ∙ ap (take (length (encode_utf8 c) + n)) b.spelling ∙ take-append-add (encode_utf8 c) b.others n
    ∙ ap (λ t. encode_utf8 c ++ take n t) (sym (drop_front_char bytes c b))

-- what is left of the bytes behind a character has a name of letters and digits
abbrev NameBehind : List ℕ → ℕ → Type 0
NameBehind bytes c = NameIs (take (name_len (drop (len_utf8 c) bytes)) (drop (len_utf8 c) bytes))

name_by : (bytes : List ℕ) (o : Option ℕ) → front_char bytes ≡ o → ((c : ℕ) → front_char bytes ≡ Some c → NameBehind bytes c) → NameIs (take (name_len bytes) bytes)
name_by bytes None is next = no_name bytes (ap (passes continues) is)
name_by bytes (Some c) is next = ⊎_elim
    (λ more. let others = next c is in record {
      chars = c ∷ others.chars;
      spelling = name_step bytes c is more ∙ ap (λ t. encode_utf8 c ++ t) others.spelling;
      values = and_from (scalar c) (scalars others.chars) (front_char_begins bytes c is).scalar_value others.values;
      each = and_from (continues c) (list_all continues others.chars) more others.each;
    })
    (λ stops. no_name bytes (ap (passes continues) is ∙ stops))
    (cases_Bool (continues c))

name_is : (n : ℕ) (bytes : List ℕ) → length bytes ≤ n → NameIs (take (name_len bytes) bytes)
name_is zero bytes short =
    name_by bytes (front_char bytes) refl (λ c found. absurd (let x : ⊥ = omega (arith, front_char_within bytes c found, len_utf8_bounds c) in x))
name_is (suc n) bytes short =
    name_by bytes (front_char bytes) refl
    (λ c found. name_is n (drop (len_utf8 c) bytes) (omega (arith, length-drop (len_utf8 c) bytes, len_utf8_bounds c)))

word_by_table : (text chars : List ℕ) → text ≡ encode_utf8_all chars → scalars chars ≡ true → is_identifier chars ≡ true → (o : Option TokenKind)
    → spelled keywords text ≡ o → IsToken (word_kind text) text
unfolding word_kind
word_by_table text chars spelling values letters (Some kind) is = keyword (is ∙ ap Some (sym (ap (λ o. unwrap_or o k.Ident) is)))
word_by_table text chars spelling values letters None is =
    identifier (ap (λ o. unwrap_or o k.Ident) is) (record { chars = chars; spelling = spelling; values = values; letters = letters; no_keyword = is })

-- a word that is read is an identifier or a keyword
pub word_sound : (bytes : List ℕ) → begins_name bytes ≡ true → IsToken (word_kind (take (name_len bytes) bytes)) (take (name_len bytes) bytes)
word_sound bytes begins = by_char (front_char bytes) refl begins
  where
    by_char : (o : Option ℕ) → front_char bytes ≡ o → passes is_letter o ≡ true → IsToken (word_kind (take (name_len bytes) bytes)) (take (name_len bytes) bytes)
    by_char None is letter = absurd (true≢false (sym letter))
    by_char (Some c) is letter =
        let text = take (name_len bytes) bytes in
        let more : continues c ≡ true = ap (λ t. t || is_digit c) letter in
        let rest = drop (len_utf8 c) bytes in
        let others = name_is (length rest) rest (omega arith) in
        let chars = c ∷ others.chars in
        word_by_table text chars (name_step bytes c is more ∙ ap (λ t. encode_utf8 c ++ t) others.spelling)
        (and_from (scalar c) (scalars others.chars) (front_char_begins bytes c is).scalar_value others.values)
        (and_from (is_letter c) (list_all continues chars) letter (and_from (continues c) (list_all continues others.chars) more others.each))
        (spelled keywords text) refl
