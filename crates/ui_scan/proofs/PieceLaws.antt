-- How long pieces are.
use Rattle.std.proofs.Common.{◌≡◌, ℕ, zero, suc, ◌+◌, ◌-◌, ◌<◌, ◌≤◌, Bool, true, false, cond, List, [], ◌∷◌, length, take, drop, get_or, refl, sym, ap, ◌∙◌, arith, ⊎_elim}
use Rattle.std.specs.Prelude.{Option, Some, None, IfSome, is_some, unwrap_or, ◌==◌, ◌&&◌, ◌||◌, not, slice_index, option_map, nat_lt, nat_le, nat_eq}
use Rattle.std.specs.Int.{is_in_range}
use Rattle.std.specs.List.{position_or_len, starts_with, list_all}
use Rattle.std.specs.Str.{bytes_eq}
use Rattle.std.proofs.lemmas.Bool.{and_parts, not-true, or_cases, or_right, cases_lt, lt-ltb, eqb-true, ltb-true, leb-true, true≢false}
use Rattle.std.proofs.lemmas.Str.{len_utf8_bounds}
use Rattle.std.proofs.lemmas.List.{length-drop, length-take}
use Rattle.std.proofs.lemmas.List.Sums.{prefix_len-le-length}
use Rattle.std.proofs.lemmas.Slice.Eq.{bytes_eq-Decides}
use Rattle.ui_base.specs.Chars.{is_letter, is_digit}
use Rattle.ui_base.specs.Names.{continues}
use Rattle.ui_scan.specs.Digits.{digit, is_digit_of, whole}
use Rattle.ui_scan.specs.Letters.{front_char, passes, begins_name, name_len, name_len_from, width}
use Rattle.ui_scan.specs.Literal.{string, rune, raw_string, string_piece, rune_piece, raw_end, body, IsBodyIn, rune_code}
use Rattle.ui_scan.specs.Number.{radix, is_counted, counted_len, number_end, number, whole_number, within, is_numeral, digits_in, begins_fraction}
use Rattle.ui_scan.specs.Piece.{line_comment, comment_len, comment_piece, general_comment, word, word_or_operator, lexeme, piece, is_line_end, is_blank, is_decimal, is_end, IsPieceIn}
use Rattle.ui_scan.specs.Table.{Row, keywords, spelled, word_kind, operators, operator, first_operator}
use Rattle.ui_scan.specs.declared.number.Radix.{Radix}
use Rattle.ui_scan.specs.declared.literal.Body.{Body}
use Rattle.ui_scan.specs.declared.literal.Body.TheVariants as body
use Rattle.ui_scan.specs.declared.piece.Piece.{Piece}
use Rattle.ui_scan.specs.declared.piece.Piece.TheVariants.{Token, Fault, Open}
use Rattle.ui_scan.specs.declared.kind.TokenKind.TheVariants as kind
use Rattle.ui_scan.specs.declared.kind.ScanKind.TheVariants as fault
use Rattle.ui_scan.proofs.LetterLaws.{name_len_more}
use Rattle.ui_scan.proofs.Choices.{some_chosen, some_mapped, at_some}
use Rattle.ui_scan.proofs.LiteralLaws.{body_in}

-- what holds on both ways, each with what the test says
pub tested : {X : Type 0} (P : X → Type 0) (b : Bool) (x y : X) → (b ≡ true → P x) → (b ≡ false → P y) → P (cond b x y)
tested P true x y p q = p refl
tested P false x y p q = q refl

-- a byte that isn't 0 is within
pub byte_within : (bytes : List ℕ) (i b : ℕ) → get_or bytes i 0 ≡ suc b → i < length bytes
byte_within [] i b e = absurd (omega arith)
byte_within (x ∷ bytes) zero b e = omega arith
byte_within (x ∷ bytes) (suc i) b e = omega (arith, byte_within bytes i b e)

-- names
name_len_from-le : (k : ℕ) (bytes : List ℕ) → name_len_from k bytes ≤ length bytes
name_len_from-le k [] = omega arith
name_len_from-le (suc k) (b ∷ bytes) = omega (arith, name_len_from-le k bytes)
name_len_from-le zero (b ∷ bytes) =
    tested (λ n. n ≤ suc (length bytes)) (passes continues (front_char (b ∷ bytes))) _ 0
    (λ _. omega (arith, name_len_from-le (width (front_char (b ∷ bytes)) - 1) bytes)) (λ _. omega arith)

pub name_len-le : (bytes : List ℕ) → name_len bytes ≤ length bytes
unfolding name_len
name_len-le bytes = name_len_from-le 0 bytes

pub name_len_begins : (bytes : List ℕ) → begins_name bytes ≡ true → 1 ≤ name_len bytes
name_len_begins bytes begins = by_char (front_char bytes) refl begins
  where
    by_char : (o : Option ℕ) → front_char bytes ≡ o → passes is_letter o ≡ true → 1 ≤ name_len bytes
    by_char None e begins = absurd (true≢false (sym begins))
    by_char (Some c) e begins =
        omega (arith, name_len_more bytes c e (ap (λ t. t || is_digit c) begins), len_utf8_bounds c)

-- operators
-- what an entry of a table spells, where the bytes begin with it
pub starts_with_is : (bytes needle : List ℕ) → starts_with nat_eq bytes needle ≡ true → needle ≡ take (length needle) bytes
starts_with_is bytes needle found = (bytes_eq-Decides needle (take (length needle) bytes)).0 found

-- each entry of a table spells something
abbrev pub is_spelled : Row → Bool
is_spelled entry = not (length entry.0 == 0) && not (is_end entry.1)

not_zero : (n : ℕ) → not (n == 0) ≡ true → 1 ≤ n
not_zero zero e = absurd (true≢false (sym e))
not_zero (suc n) e = omega arith

first_operator_in : (table : List Row) (bytes : List ℕ) → list_all is_spelled table ≡ true → IsPieceIn (length bytes) (first_operator table bytes)
first_operator_in [] bytes spelled = omega arith
first_operator_in (entry ∷ table) bytes spelled =
    let parts = and_parts (is_spelled entry) (list_all is_spelled table) spelled in
    tested (IsPieceIn (length bytes)) (starts_with nat_eq bytes entry.0) (Token entry.1 (length entry.0)) (first_operator table bytes)
    (λ found. let own = and_parts (not (length entry.0 == 0)) (not (is_end entry.1)) parts.0 in
    (not_zero (length entry.0) own.0, omega (arith, ap length (starts_with_is bytes entry.0 found), length-take (length entry.0) bytes), not-true (is_end entry.1) own.1))
    (λ _. first_operator_in table bytes parts.1)

operator_in : (bytes : List ℕ) → IsPieceIn (length bytes) (operator bytes)
unfolding operator operators
operator_in bytes = first_operator_in operators bytes refl

-- keywords and identifiers
spelled_in : (table : List Row) (text : List ℕ) → list_all is_spelled table ≡ true → is_end (unwrap_or (spelled table text) kind.Ident) ≡ false
spelled_in [] text each = refl
spelled_in (entry ∷ table) text each =
    let parts = and_parts (is_spelled entry) (list_all is_spelled table) each in
    tested (λ o. is_end (unwrap_or o kind.Ident) ≡ false) (bytes_eq entry.0 text) (Some entry.1) (spelled table text)
    (λ _. not-true (is_end entry.1) (and_parts (not (length entry.0 == 0)) (not (is_end entry.1)) parts.0).1)
    (λ _. spelled_in table text parts.1)

word_kind_in : (text : List ℕ) → is_end (word_kind text) ≡ false
unfolding word_kind keywords
word_kind_in text = spelled_in keywords text refl

word_or_operator_in : (bytes : List ℕ) → IsPieceIn (length bytes) (word_or_operator bytes)
unfolding word
word_or_operator_in bytes =
    tested (IsPieceIn (length bytes)) (begins_name bytes) (word bytes) (operator bytes)
    (λ begins. (name_len_begins bytes begins, name_len-le bytes, word_kind_in (take (name_len bytes) bytes))) (λ _. operator_in bytes)

-- numbers
radix_in : (bytes : List ℕ) → (radix bytes).len ≤ length bytes
unfolding radix
radix_in bytes =
    let second = slice_index bytes 1 in
    let P : Radix → Type 0 = λ r. r.len ≤ length bytes in
    tested P (slice_index bytes 0 == 48) _ _
    (λ _. tested P (second == 120 || second == 88) _ _ (λ e. two 119 87 e)
    (λ _. tested P (second == 111 || second == 79) _ _ (λ e. two 110 78 e)
    (λ _. tested P (second == 98 || second == 66) _ _ (λ e. two 97 65 e)
    (λ _. omega arith))))
    (λ _. omega arith)
  where
    two : (a b : ℕ) → (slice_index bytes 1 == suc a || slice_index bytes 1 == suc b) ≡ true → 2 ≤ length bytes
    two a b e = ⊎_elim
        (λ l. omega (arith, byte_within bytes 1 a (eqb-true (slice_index bytes 1) (suc a) l)))
        (λ r. omega (arith, byte_within bytes 1 b (eqb-true (slice_index bytes 1) (suc b) r)))
        (or_cases (slice_index bytes 1 == suc a) (slice_index bytes 1 == suc b) e)

decimal_digit : (b : ℕ) → is_decimal b ≡ true → digit b < 10
unfolding digit
decimal_digit b decimal =
    let range = and_parts (nat_le 48 b) (nat_le b 57) decimal in
    let e : digit b ≡ b - 48 = ap (λ t. cond t (b - 48) (cond (is_in_range 97 102 b) (b - 87) (cond (is_in_range 65 70 b) (b - 55) 16))) decimal in
    omega (arith, e, leb-true b 57 range.1)

decimal_counts : (base b : ℕ) → is_decimal b ≡ true → is_counted base b ≡ true
decimal_counts base b decimal =
    let digit_of : is_digit_of (cond (base == 16) 16 10) b ≡ true =
    tested (λ n. is_digit_of n b ≡ true) (base == 16) 16 10 (λ _. lt-ltb (digit b) 16 (omega (arith, decimal_digit b decimal))) (λ _. lt-ltb (digit b) 10 (decimal_digit b decimal)) in
    ap (λ t. b == 95 || t) digit_of ∙ or_right (b == 95) true refl

pub number_end_in : (bytes : List ℕ) → is_decimal (slice_index bytes 0) ≡ true
    → (1 ≤ number_end (radix bytes) bytes) × (number_end (radix bytes) bytes ≤ length bytes)
number_end_in bytes decimal = (
  ⊎_elim (λ some_. omega arith) (λ none_. by_first (radix bytes) bytes decimal (omega arith)) (cases_lt 0 (radix bytes).len),
  omega (arith, radix_in bytes, prefix_len-le-length (is_counted (radix bytes).base) (drop (radix bytes).len bytes), length-drop (radix bytes).len bytes),
)
  where
    by_first : (r : Radix) (bytes : List ℕ) → is_decimal (slice_index bytes 0) ≡ true → r.len ≡ 0 → 1 ≤ number_end r bytes
    by_first r [] decimal none_ = absurd (true≢false (sym decimal))
    by_first r (b ∷ bytes) decimal none_ =
        let e : counted_len r.base (drop r.len (b ∷ bytes)) ≡ 1 + counted_len r.base bytes =
        ap (λ n. counted_len r.base (drop n (b ∷ bytes))) none_
        ∙ ap (λ t. cond t (1 + counted_len r.base bytes) 0) (decimal_counts r.base b decimal) in
        omega (arith, e)

within_in : (n end : ℕ) (o : Option ℕ) → 1 ≤ end → end ≤ n → IsPieceIn n (within end o)
within_in n end None le le' = omega arith
within_in n end (Some v) le le' = (le, le', refl)

whole_in : (n base : ℕ) (digits : List ℕ) (end : ℕ) → 1 ≤ end → end ≤ n → IsPieceIn n (whole_number base digits end)
unfolding whole_number
whole_in n base digits end le le' =
    tested (IsPieceIn n) (is_numeral base digits) (within end (whole base digits)) (Fault fault.BadNumber 0)
    (λ _. within_in n end (whole base digits) le le') (λ _. omega arith)

number_in : (bytes : List ℕ) → is_decimal (slice_index bytes 0) ≡ true → IsPieceIn (length bytes) (number bytes)
unfolding number
number_in bytes decimal =
    let r = radix bytes in
    let end = number_end r bytes in
    let P : Piece → Type 0 = IsPieceIn (length bytes) in
    let ends = number_end_in bytes decimal in
    tested P (begins_fraction (slice_index bytes end)) _ _ (λ _. omega arith)
    (λ _. tested P (slice_index bytes end == 105) _ _ (λ _. omega arith)
    (λ _. whole_in (length bytes) r.base (digits_in r bytes end) end ends.0 ends.1))

-- what stands in quotes
string_in : (bytes : List ℕ) → 1 ≤ length bytes → IsPieceIn (length bytes) (string bytes)
unfolding string
string_in bytes le = by_body (length (drop 1 bytes)) (length bytes) (body 34 (drop 1 bytes)) (omega (arith, length-drop 1 bytes)) (body_in 34 (drop 1 bytes))
  where
    by_body : (n m : ℕ) (b : Body) → 1 + n ≤ m → IsBodyIn n b → IsPieceIn m (string_piece b)
    by_body n m (body.Closed len) le p = (omega arith, omega arith, refl)
    by_body n m body.Newline le p = omega arith
    by_body n m (body.BadEscape at) le p = omega arith
    by_body n m body.Open le p = tt

rune_in : (bytes : List ℕ) → 1 ≤ length bytes → IsPieceIn (length bytes) (rune bytes)
unfolding rune
rune_in bytes le = by_body (length (drop 1 bytes)) (length bytes) (body 39 (drop 1 bytes)) (omega (arith, length-drop 1 bytes)) (body_in 39 (drop 1 bytes))
  where
    by_body : (n m : ℕ) (b : Body) → 1 + n ≤ m → IsBodyIn n b → IsPieceIn m (rune_piece bytes b)
    by_body n m (body.Closed len) le p =
        tested (IsPieceIn m) (is_some (rune_code (take (len - 1) (drop 1 bytes)))) (Token kind.Rune (1 + len)) (Fault fault.BadRune 0)
        (λ _. (omega arith, omega arith, refl)) (λ _. omega arith)
    by_body n m body.Newline le p = omega arith
    by_body n m (body.BadEscape at) le p = omega arith
    by_body n m body.Open le p = tt

raw_string_in : (bytes : List ℕ) → IsPieceIn (length bytes) (raw_string bytes)
unfolding raw_string
raw_string_in bytes =
    tested (IsPieceIn (length bytes)) (nat_lt (raw_end bytes) (length bytes)) (Token kind.Str (raw_end bytes + 1)) (Open fault.OpenString)
    (λ closed. (omega arith, omega (arith, ltb-true (raw_end bytes) (length bytes) closed), refl)) (λ _. tt)

-- comments
line_comment_in : (bytes : List ℕ) → slice_index bytes 0 ≡ 47 → IsPieceIn (length bytes) (line_comment bytes)
unfolding line_comment
line_comment_in [] slash = absurd (omega arith)
line_comment_in (b ∷ bytes) slash =
    let e : position_or_len is_line_end (b ∷ bytes) ≡ 1 + position_or_len is_line_end bytes =
    ap (λ x. cond (not (x == 10)) (1 + position_or_len is_line_end bytes) 0) slash in
    (omega (arith, e), prefix_len-le-length (λ x. not (is_line_end x)) (b ∷ bytes))

comment_len-le : (bytes : List ℕ) → IfSome (comment_len bytes) (λ n. n ≤ length bytes)
comment_len-le [] = tt
comment_len-le (b ∷ bytes) =
    some_chosen (λ n. n ≤ suc (length bytes)) (b == 42 && slice_index bytes 0 == 47) (Some 2) (option_map (λ n. 1 + n) (comment_len bytes))
    (λ e. let slash = eqb-true (slice_index bytes 0) 47 (and_parts (b == 42) (slice_index bytes 0 == 47) e).1 in omega (arith, byte_within bytes 0 46 slash))
    (λ _. some_mapped (λ n. n ≤ suc (length bytes)) (λ n. 1 + n) (comment_len bytes)
    (λ n found. omega (arith, at_some (λ k. k ≤ length bytes) (comment_len bytes) n found (comment_len-le bytes))))

general_comment_in : (bytes : List ℕ) → slice_index bytes 1 ≡ 42 → IsPieceIn (length bytes) (general_comment bytes)
unfolding general_comment
general_comment_in bytes star = by_len (comment_len (drop 2 bytes)) (comment_len-le (drop 2 bytes))
  where
    by_len : (o : Option ℕ) → IfSome o (λ n. n ≤ length (drop 2 bytes)) → IsPieceIn (length bytes) (comment_piece bytes o)
    by_len None p = tt
    by_len (Some n) p = (omega arith, omega (arith, length-drop 2 bytes, byte_within bytes 1 41 star))

-- each piece
pub lexeme_in : (bytes : List ℕ) → 1 ≤ length bytes → IsPieceIn (length bytes) (lexeme bytes)
unfolding lexeme
lexeme_in bytes le =
    let b = slice_index bytes 0 in
    let P : Piece → Type 0 = IsPieceIn (length bytes) in
    tested P (b == 34) _ _ (λ _. string_in bytes le)
    (λ _. tested P (b == 39) _ _ (λ _. rune_in bytes le)
    (λ _. tested P (b == 96) _ _ (λ _. raw_string_in bytes)
    (λ _. tested P (is_decimal b) _ _ (λ decimal. number_in bytes decimal)
    (λ _. tested P (b == 46 && is_decimal (slice_index bytes 1)) _ _ (λ _. omega arith)
    (λ _. word_or_operator_in bytes)))))

pub piece_in : (bytes : List ℕ) → 1 ≤ length bytes → IsPieceIn (length bytes) (piece bytes)
unfolding piece
piece_in bytes le =
    let b = slice_index bytes 0 in
    let P : Piece → Type 0 = IsPieceIn (length bytes) in
    tested P (is_line_end b) _ _ (λ _. (omega arith, le))
    (λ _. tested P (is_blank b) _ _ (λ _. (omega arith, le))
    (λ _. tested P (b == 47 && slice_index bytes 1 == 47) _ _ (λ e. line_comment_in bytes (eqb-true b 47 (and_parts (b == 47) (slice_index bytes 1 == 47) e).0))
    (λ _. tested P (b == 47 && slice_index bytes 1 == 42) _ _ (λ e. general_comment_in bytes (eqb-true (slice_index bytes 1) 42 (and_parts (b == 47) (slice_index bytes 1 == 42) e).1))
    (λ _. lexeme_in bytes le))))
