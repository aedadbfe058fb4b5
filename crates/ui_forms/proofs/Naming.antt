-- ASCII names are names.
use Rattle.std.proofs.Common.{◌≡◌, ◌∙◌, ap, sym, subst, refl, ℕ, zero, suc, ◌<◌, ◌≤◌, Bool, true, false, not, ◌&&◌, ◌||◌, List, [], ◌∷◌, arith, lit<, ⊎_elim}
use Rattle.std.specs.Prelude.{◌==◌, nat_le, bytes_eq}
use Rattle.std.specs.List.{list_all, list_any}
use Rattle.std.specs.Str.{IsAscii, IsUtf8, chars, is_utf8}
use Rattle.std.proofs.lemmas.Bool.{cases_lt, and_parts, and_from, and_right, or_from, not_from_false, true≢false, lt-leb, ne_eqb, agree_below_at, cases_Bool}
use Rattle.std.proofs.lemmas.Slice.Eq.{bytes_eq-Decides}
use Rattle.std.proofs.lemmas.Str.{IsUtf8-from_ascii, is_utf8-from_IsUtf8, chars-IsAscii}
use Rattle.ucd_category.specs.GeneralCategory.{general_category}
use Rattle.ucd_category.specs.GeneralCategoryRows.{general_category_rows}
use Rattle.ucd_table.specs.Rows.{value_in}
use Rattle.ui_base.specs.Chars.{is_letter, is_digit}
use Rattle.ui_base.specs.Names.{begins_with, continues, is_identifier, is_keyword, is_name, keywords}
use Rattle.ui_forms.specs.Words as words

abbrev Text : Type 0
Text = List ℕ

-- ---- ASCII

high_byte : (b : ℕ) → 128 ≤ b → words.is_letter_or_digit b ≡ false
high_byte b high =
    or_from (words.is_letter b) (words.is_digit b)
    (or_from _ (b == 95) (or_from (words.is_capital b) (nat_le 97 b && nat_le b 122) (and_right (nat_le 65 b) (nat_le b 90) (lt-leb b 90 (omega arith))) (and_right (nat_le 97 b) (nat_le b 122) (lt-leb b 122 (omega arith)))) (ne_eqb b 95 (λ e. omega arith)))
    (and_right (nat_le 48 b) (nat_le b 57) (lt-leb b 57 (omega arith)))

low_byte : (b : ℕ) → words.is_letter_or_digit b ≡ true → b < 128
low_byte b is = ⊎_elim
    (λ (low : b < 128). low)
    (λ (high : 128 ≤ b). absurd (true≢false (sym is ∙ high_byte b high)))
    (cases_lt b 128)

letter_below : (b : ℕ) → b < 128 → words.is_letter b ≡ true → is_letter b ≡ true
unfolding is_letter general_category value_in general_category_rows
letter_below b low is =
    ap (λ t. not t || is_letter b) (sym is) ∙ agree_below_at (λ c. not (words.is_letter c) || is_letter c) (λ c. true) 128 b refl low

continues_below : (b : ℕ) → b < 128 → words.is_letter_or_digit b ≡ true → continues b ≡ true
unfolding is_letter is_digit general_category value_in general_category_rows
continues_below b low is =
    ap (λ t. not t || continues b) (sym is) ∙ agree_below_at (λ c. not (words.is_letter_or_digit c) || continues c) (λ c. true) 128 b refl low

ascii_with : (b : ℕ) (bs : Text) → b < 128 → IsAscii bs → IsAscii (b ∷ bs)
ascii_with b bs h rest zero = h
ascii_with b bs h rest (suc i) = rest i

ascii_text : (bs : Text) → list_all words.is_letter_or_digit bs ≡ true → IsAscii bs
ascii_text [] each = λ i. lit< tt
ascii_text (b ∷ bs) each =
    let p = and_parts (words.is_letter_or_digit b) (list_all words.is_letter_or_digit bs) each in
    ascii_with b bs (low_byte b p.0) (ascii_text bs p.1)

all_continue : (bs : Text) → list_all words.is_letter_or_digit bs ≡ true → list_all continues bs ≡ true
all_continue [] each = refl
all_continue (b ∷ bs) each =
    let p = and_parts (words.is_letter_or_digit b) (list_all words.is_letter_or_digit bs) each in
    and_from (continues b) (list_all continues bs) (continues_below b (low_byte b p.0) p.0) (all_continue bs p.1)

ascii_identifier : (bs : Text) → words.is_ascii_name bs ≡ true → is_identifier bs ≡ true
ascii_identifier [] is = absurd (true≢false (sym is))
ascii_identifier (b ∷ bs) is =
    let p = and_parts (words.is_letter b) (list_all words.is_letter_or_digit (b ∷ bs)) is in
    let first = and_parts (words.is_letter_or_digit b) (list_all words.is_letter_or_digit bs) p.1 in
    and_from (is_letter b) (list_all continues (b ∷ bs)) (letter_below b (low_byte b first.0) p.0) (all_continue (b ∷ bs) p.1)

name_by : (bs text : Text) → text ≡ bs → IsUtf8 bs → is_identifier bs ≡ true → not (is_keyword bs) ≡ true → (is_utf8 bs && (is_identifier text && not (is_keyword bs))) ≡ true
name_by bs text same utf8 letters other =
    and_from (is_utf8 bs) (is_identifier text && not (is_keyword bs)) (is_utf8-from_IsUtf8 bs utf8)
    (and_from (is_identifier text) (not (is_keyword bs)) (ap is_identifier same ∙ letters) other)

-- ASCII letters and digits that are no keyword are a name
pub ascii_name : (bs : Text) → words.is_ascii_name bs ≡ true → not (is_keyword bs) ≡ true → is_name bs ≡ true
unfolding is_name
ascii_name bs is other =
    let ascii = ascii_text bs (and_parts (begins_with words.is_letter bs) (list_all words.is_letter_or_digit bs) is).1 in
    name_by bs (chars bs) (chars-IsAscii bs ascii) (IsUtf8-from_ascii bs ascii) (ascii_identifier bs is) other

-- ---- keywords

begins_otherwise : (word bs : Text) → not (begins_with words.is_capital word) ≡ true → begins_with words.is_capital bs ≡ true → bytes_eq word bs ≡ false
begins_otherwise word bs lower capital = ⊎_elim
    (λ (same : bytes_eq word bs ≡ true).
    let Q : Bool → Type 0 = λ b. not b ≡ true in
    absurd (true≢false (sym (subst Q (ap (begins_with words.is_capital) ((bytes_eq-Decides word bs).0 same) ∙ capital) lower))))
    (λ (other : bytes_eq word bs ≡ false). other)
    (cases_Bool (bytes_eq word bs))

none_begins : (ws : List Text) (bs : Text) → list_all (λ w. not (begins_with words.is_capital w)) ws ≡ true → begins_with words.is_capital bs ≡ true → list_any (λ w. bytes_eq w bs) ws ≡ false
none_begins [] bs lower capital = refl
none_begins (w ∷ ws) bs lower capital =
    let p = and_parts (not (begins_with words.is_capital w)) (list_all (λ v. not (begins_with words.is_capital v)) ws) lower in
    or_from (bytes_eq w bs) (list_any (λ v. bytes_eq v bs) ws) (begins_otherwise w bs p.0 capital) (none_begins ws bs p.1 capital)

-- a word that begins with a capital is no keyword
no_keyword : (bs : Text) → begins_with words.is_capital bs ≡ true → is_keyword bs ≡ false
unfolding is_keyword
no_keyword bs capital = none_begins keywords bs refl capital

-- the name of a constant is a name
pub constant_name : (bs : Text) → words.is_constant_name bs ≡ true → is_name bs ≡ true
constant_name bs is =
    let p = and_parts (begins_with words.is_capital bs) (words.is_ascii_name bs) is in
    ascii_name bs p.1 (not_from_false (is_keyword bs) (no_keyword bs p.0))
