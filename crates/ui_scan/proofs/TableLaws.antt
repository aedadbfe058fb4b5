-- Parts of the tables of keywords and operators: by length, and by first byte.
use Rattle.std.proofs.Common.{◌≡◌, ℕ, Bool, true, false, cond, List, [], ◌∷◌, length, take, refl, sym, ap, ◌∙◌}
use Rattle.std.specs.Prelude.{Option, Some, None, ◌==◌, ◌&&◌, ◌||◌, not, slice_index, nat_eq, filter}
use Rattle.std.specs.List.{starts_with, list_all}
use Rattle.std.specs.Str.{bytes_eq}
use Rattle.std.proofs.lemmas.Bool.{and_parts, true≢false, eq-eqb, cond-false, false_from_ne_true, not-true, not_from_false}
use Rattle.std.proofs.lemmas.Slice.Eq.{bytes_eq-Decides}
use Rattle.ui_scan.specs.Table.{Row, keywords, spelled, operators, operator, first_operator}
use Rattle.ui_scan.specs.declared.kind.TokenKind.{TokenKind}
use Rattle.ui_scan.specs.declared.kind.ScanKind.TheVariants.{BadByte}
use Rattle.ui_scan.specs.declared.piece.Piece.TheVariants.{Token, Fault}
use Rattle.ui_scan.proofs.PieceLaws.{tested, starts_with_is}
use Rattle.ui_scan.proofs.WordLanguage.{spelled_passes}

-- the entries of a length, and those that begin with a byte
abbrev pub of_length : ℕ → List Row → List Row
of_length n table = filter (λ (e : Row). length e.0 == n) table

abbrev pub from_byte : ℕ → List Row → List Row
from_byte b table = filter (λ (e : Row). slice_index e.0 0 == b) table

-- a word of another length is not spelled by an entry
other_length : (text word : List ℕ) (n : ℕ) → length word ≡ n → (length text == n) ≡ false → bytes_eq text word ≡ false
other_length text word n is other = false_from_ne_true (bytes_eq text word) (λ same.
    true≢false (sym (eq-eqb (length text) n (ap length ((bytes_eq-Decides text word).0 same) ∙ is)) ∙ other))

spelled_of_length : (n : ℕ) (table : List Row) (word : List ℕ) → length word ≡ n → spelled (of_length n table) word ≡ spelled table word
spelled_of_length n [] word is = refl
spelled_of_length n (entry ∷ table) word is =
    tested (λ (t : List Row). spelled t word ≡ spelled (entry ∷ table) word) (length entry.0 == n) (entry ∷ of_length n table) (of_length n table)
    (λ _. ap (λ o. cond (bytes_eq entry.0 word) (Some entry.1) o) (spelled_of_length n table word is))
    (λ other. spelled_of_length n table word is ∙ sym (cond-false _ _ _ (other_length entry.0 word n is other)))

pub keywords_by : (n : ℕ) (part : List Row) (word : List ℕ) → length word ≡ n → part ≡ of_length n keywords → spelled part word ≡ spelled keywords word
keywords_by n part word is parted = ap (λ (t : List Row). spelled t word) parted ∙ spelled_of_length n keywords word is

-- the lengths of keywords
abbrev pub is_keyword_length : ℕ → Bool
is_keyword_length n = n == 2 || (n == 3 || (n == 4 || (n == 5 || (n == 6 || (n == 7 || (n == 8 || (n == 9 || (n == 11))))))))

not_spelled : (word : List ℕ) (o : Option TokenKind) → spelled keywords word ≡ o → is_keyword_length (length word) ≡ false → None ≡ o
unfolding keywords
not_spelled word None is other = refl
not_spelled word (Some kind) is other = absurd (true≢false (sym (spelled_passes (λ t. is_keyword_length (length t)) keywords word kind refl is) ∙ other))

pub no_keyword : (word : List ℕ) → is_keyword_length (length word) ≡ false → None ≡ spelled keywords word
no_keyword word other = not_spelled word (spelled keywords word) refl other

-- what begins with another byte is not begun by an entry
first_taken : (mark bytes : List ℕ) → (length mark == 0) ≡ false → mark ≡ take (length mark) bytes → slice_index mark 0 ≡ slice_index bytes 0
first_taken [] bytes some is = absurd (true≢false some)
first_taken (m ∷ mark) [] some is = absurd (cc)
first_taken (m ∷ mark) (b ∷ bytes) some is = let e : m ≡ b = cc in e

starts_apart : (p : ℕ → Bool) (mark bytes : List ℕ) → (length mark == 0) ≡ false → p (slice_index mark 0) ≡ true → p (slice_index bytes 0) ≡ false → starts_with nat_eq bytes mark ≡ false
starts_apart p mark bytes some passes other = false_from_ne_true (starts_with nat_eq bytes mark) (λ found.
    true≢false (sym passes ∙ ap p (first_taken mark bytes some (starts_with_is bytes mark found)) ∙ other))

-- each entry spells something
abbrev is_some_mark : Row → Bool
is_some_mark entry = not (length entry.0 == 0)

not_zero : (n : ℕ) → not (n == 0) ≡ true → (n == 0) ≡ false
not_zero n e = not-true (n == 0) e

first_from_byte : (b : ℕ) (table : List Row) (bytes : List ℕ) → list_all is_some_mark table ≡ true → slice_index bytes 0 ≡ b
    → first_operator (from_byte b table) bytes ≡ first_operator table bytes
first_from_byte b [] bytes each is = refl
first_from_byte b (entry ∷ table) bytes each is =
    let parts = and_parts (is_some_mark entry) (list_all is_some_mark table) each in
    tested (λ (t : List Row). first_operator t bytes ≡ first_operator (entry ∷ table) bytes) (slice_index entry.0 0 == b) (entry ∷ from_byte b table) (from_byte b table)
    (λ _. ap (λ o. cond (starts_with nat_eq bytes entry.0) (Token entry.1 (length entry.0)) o) (first_from_byte b table bytes parts.1 is))
    (λ other. first_from_byte b table bytes parts.1 is ∙ sym (cond-false _ _ _ (
    starts_apart (λ x. not (x == b)) entry.0 bytes (not_zero (length entry.0) parts.0)
    (not_from_false (slice_index entry.0 0 == b) other)
    (ap not (eq-eqb (slice_index bytes 0) b is)))))

pub operator_by : (b : ℕ) (part : List Row) (bytes : List ℕ) → slice_index bytes 0 ≡ b → part ≡ from_byte b operators → first_operator part bytes ≡ operator bytes
unfolding operator operators
operator_by b part bytes is parted =
    ap (λ (t : List Row). first_operator t bytes) parted ∙ first_from_byte b operators bytes refl is

-- the bytes that operators begin with
abbrev pub is_mark_byte : ℕ → Bool
is_mark_byte b = b == 60 || (b == 62 || (b == 38 || (b == 46 || (b == 43 || (b == 45 || (b == 42 || (b == 47 || (b == 37 || (b == 124 || (b == 94 || (b == 61 || (b == 33 || (b == 58 || (b == 126 || (b == 40 || (b == 91 || (b == 123 || (b == 44 || (b == 41 || (b == 93 || (b == 125 || (b == 59))))))))))))))))))))))

abbrev is_marked : Row → Bool
is_marked entry = is_some_mark entry && is_mark_byte (slice_index entry.0 0)

none_starts : (table : List Row) (bytes : List ℕ) → list_all is_marked table ≡ true → is_mark_byte (slice_index bytes 0) ≡ false → first_operator table bytes ≡ Fault BadByte 0
none_starts [] bytes each other = refl
none_starts (entry ∷ table) bytes each other =
    let parts = and_parts (is_marked entry) (list_all is_marked table) each in
    let own = and_parts (is_some_mark entry) (is_mark_byte (slice_index entry.0 0)) parts.0 in
    cond-false _ _ _ (starts_apart is_mark_byte entry.0 bytes (not_zero (length entry.0) own.0) own.1 other) ∙ none_starts table bytes parts.1 other

pub no_operator : (bytes : List ℕ) → is_mark_byte (slice_index bytes 0) ≡ false → Fault BadByte 0 ≡ operator bytes
unfolding operator operators
no_operator bytes other = sym (none_starts operators bytes refl other)
