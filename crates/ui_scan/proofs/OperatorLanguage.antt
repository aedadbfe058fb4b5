-- Operators, as they are spelled and as they are read.
use Rattle.std.proofs.Common.{◌≡◌, ℕ, suc, ◌<◌, ◌≤◌, Bool, true, false, List, [], ◌∷◌, ◌++◌, length, take, refl, sym, ap, ◌∙◌, subst, arith, ⊎_elim}
use Rattle.std.specs.Prelude.{Some, ◌==◌, ◌&&◌, ◌||◌, not, slice_index, nat_eq, nat_le, nat_lt}
use Rattle.std.specs.List.{starts_with, list_all}
use Rattle.std.specs.Str.{bytes_eq}
use Rattle.std.proofs.lemmas.Bool.{cases_Bool, cases_lt, and_parts, or_cases, not-true, true≢false, leb-true, ltb-true, eqb-true, cond-true, cond-false, false_from_ne_true}
use Rattle.std.proofs.lemmas.List.{take-take, take_at, take_min, length-take}
use Rattle.std.proofs.lemmas.Slice.Eq.{bytes_eq-Decides}
use Rattle.std.proofs.lemmas.Str.{encode_ascii}
use Rattle.ucd_category.specs.GeneralCategory.{general_category}
use Rattle.ucd_category.specs.GeneralCategoryRows.{general_category_rows}
use Rattle.ucd_table.specs.Rows.{value_in}
use Rattle.ui_base.specs.Chars.{is_letter}
use Rattle.ui_scan.specs.Language.IsFaulty.{point}
use Rattle.ui_scan.specs.Letters.{front_char, passes, begins_name}
use Rattle.ui_scan.specs.Piece.{lexeme, is_decimal}
use Rattle.ui_scan.specs.Table.{Row, spelled, operators, operator, first_operator}
use Rattle.ui_scan.specs.declared.kind.TokenKind.{TokenKind}
use Rattle.ui_scan.specs.declared.piece.Piece.{Piece}
use Rattle.ui_scan.specs.declared.piece.Piece.TheVariants as a
use Rattle.ui_scan.proofs.PieceLaws.{tested, starts_with_is}
use Rattle.ui_scan.proofs.LetterLaws.{front_char-encode}
use Rattle.ui_scan.proofs.Readings.{Outdone, Reads}
use Rattle.ui_scan.proofs.WordLanguage.{is_word_byte, lexeme_word, spelled_passes, low_scalar}

-- a text that begins by an entry, behind which it stands, is no longer
abbrev no_longer : Row → List ℕ → Bool
no_longer entry text = not (starts_with nat_eq text entry.0) || nat_le (length text) (length entry.0)

abbrev is_ordered : List Row → Bool
is_ordered [] = true
is_ordered (entry ∷ table) = list_all (λ (later : Row). no_longer entry later.0) table && is_ordered table

-- of two texts that begin the same bytes the shorter begins the longer
begins_both : (bytes a b : List ℕ) → starts_with nat_eq bytes a ≡ true → starts_with nat_eq bytes b ≡ true → length a ≤ length b → starts_with nat_eq b a ≡ true
begins_both bytes a b p q le =
    let is_a = starts_with_is bytes a p in
    let is_b = starts_with_is bytes b q in
    (bytes_eq-Decides a (take (length a) b)).1
    (is_a ∙ sym (take-take (length a) (length b) bytes le) ∙ sym (ap (take (length a)) is_b))

begins_itself : (text rest : List ℕ) → starts_with nat_eq (text ++ rest) text ≡ true
begins_itself text rest = (bytes_eq-Decides text (take (length text) (text ++ rest))).1 (sym (take_at text rest (length text) refl))

-- an entry that begins the bytes, before the one that spells the text
earlier : (entry : Row) (text rest : List ℕ) → starts_with nat_eq (text ++ rest) entry.0 ≡ true → bytes_eq entry.0 text ≡ false → no_longer entry text ≡ true → length text < length entry.0
earlier entry text rest found other well = ⊎_elim
    (λ longer. longer)
    (λ (le : length entry.0 ≤ length text).
    let begins = begins_both (text ++ rest) entry.0 text found (begins_itself text rest) le in
    ⊎_elim
    (λ apart. absurd (true≢false (sym begins ∙ not-true (starts_with nat_eq text entry.0) apart)))
    (λ short.
    let same : length text ≡ length entry.0 = omega (arith, leb-true (length text) (length entry.0) short) in
    let is : entry.0 ≡ text = starts_with_is (text ++ rest) entry.0 found ∙ take_at text rest (length entry.0) same in
    absurd (true≢false (sym ((bytes_eq-Decides entry.0 text).1 is) ∙ other)))
    (or_cases (not (starts_with nat_eq text entry.0)) (nat_le (length text) (length entry.0)) well))
    (cases_lt (length text) (length entry.0))

-- the operator at the front
table_reads : (table : List Row) (text rest : List ℕ) (kind : TokenKind) → is_ordered table ≡ true → spelled table text ≡ Some kind
    → Reads (text ++ rest) kind (length text) (first_operator table (text ++ rest))
table_reads [] text rest kind ordered is = absurd (cc)
table_reads (entry ∷ table) text rest kind ordered is =
    let bytes = text ++ rest in
    let parts = and_parts (list_all (λ (later : Row). no_longer entry later.0) table) (is_ordered table) ordered in
    ⊎_elim
    (λ same.
    let spells : entry.0 ≡ text = (bytes_eq-Decides entry.0 text).0 same in
    let kind_is : Some entry.1 ≡ Some kind = sym (cond-true _ _ _ same) ∙ is in
    subst (Reads bytes kind (length text)) (sym (cond-true _ _ _ (subst (λ t. starts_with nat_eq bytes t ≡ true) (sym spells) (begins_itself text rest))))
    (omega (arith, ap length spells), (λ _. let e : kind ≡ entry.1 = cc in e)))
    (λ other.
    let later : spelled table text ≡ Some kind = sym (cond-false _ _ _ other) ∙ is in
    tested (Reads bytes kind (length text)) (starts_with nat_eq bytes entry.0) _ _
    (λ found.
    let longer = earlier entry text rest found other (spelled_passes (no_longer entry) table text kind parts.0 later) in
    (omega (arith, longer), (λ same. absurd (let x : ⊥ = omega (arith, longer, same) in x))))
    (λ _. table_reads table text rest kind parts.1 later))
    (cases_Bool (bytes_eq entry.0 text))

-- no letter begins an operator, and no digit follows its first byte
abbrev is_operator_text : List ℕ → Bool
is_operator_text [] = false
is_operator_text (b ∷ text) = nat_lt b 128 && (not (is_letter b) && (is_word_byte b && not (is_decimal (slice_index text 0))))

operator_text : (text : List ℕ) (kind : TokenKind) → spelled operators text ≡ Some kind → is_operator_text text ≡ true
unfolding operators is_letter general_category value_in general_category_rows
operator_text text kind is = spelled_passes is_operator_text operators text kind refl is

-- a point before a digit
point_digit : (rest : List ℕ) → is_decimal (slice_index rest 0) ≡ true → Outdone (46 ∷ rest) 1
point_digit [] digit = absurd (true≢false (sym digit))
point_digit (d ∷ rest) digit = record { text = 46 ∷ d ∷ []; rest = rest; faulty = point d refl digit; spelling = refl; longer = omega arith }

point_outdone : (b : ℕ) (text rest : List ℕ) → b ≡ 46 → is_decimal (slice_index (text ++ rest) 0) ≡ true → is_decimal (slice_index text 0) ≡ false
    → Outdone (b ∷ (text ++ rest)) (length (b ∷ text))
point_outdone b [] rest is digit no_digit = subst (λ x. Outdone (x ∷ rest) (suc 0)) (sym is) (point_digit rest digit)
point_outdone b (d ∷ text) rest is digit no_digit = absurd (true≢false (sym digit ∙ no_digit))

pub operator_reads : (kind : TokenKind) (text rest : List ℕ) → spelled operators text ≡ Some kind → Reads (text ++ rest) kind (length text) (lexeme (text ++ rest))
unfolding operator operators
operator_reads kind [] rest is = absurd (true≢false (sym (operator_text [] kind is)))
operator_reads kind (b ∷ text) rest is =
    let p = and_parts (nat_lt b 128) _ (operator_text (b ∷ text) kind is) in
    let q = and_parts (not (is_letter b)) _ p.1 in
    let r = and_parts (is_word_byte b) _ q.1 in
    let low : b < 128 = ltb-true b 128 p.0 in
    let bytes = b ∷ (text ++ rest) in
    let front : front_char bytes ≡ Some b = ap (λ t. front_char (t ++ (text ++ rest))) (sym (encode_ascii b low)) ∙ front_char-encode b (text ++ rest) (low_scalar b low) in
    let no_name : begins_name bytes ≡ false = ap (passes is_letter) front ∙ not-true (is_letter b) q.0 in
    subst (Reads bytes kind (length (b ∷ text))) (sym (lexeme_word b (text ++ rest) r.0))
    (tested (Reads bytes kind (length (b ∷ text))) (b == 46 && is_decimal (slice_index (text ++ rest) 0)) _ _
    (λ pointed.
    let both = and_parts (b == 46) (is_decimal (slice_index (text ++ rest) 0)) pointed in
    point_outdone b text rest (eqb-true b 46 both.0) both.1 (not-true (is_decimal (slice_index text 0)) r.1))
    (λ _. subst (Reads bytes kind (length (b ∷ text))) (sym (cond-false _ _ _ no_name)) (table_reads operators (b ∷ text) rest kind refl is)))

-- an operator that is read is one of the table
abbrev pub Spells : List Row → List ℕ → Piece → Type 0
Spells table bytes (a.Blank len ends_line) = Unit {0}
Spells table bytes (a.Token kind len) = spelled table (take len bytes) ≡ Some kind
Spells table bytes (a.Fault kind at) = Unit {0}
Spells table bytes (a.Open kind) = Unit {0}

spells_later : (entry : Row) (table : List Row) (bytes : List ℕ) (p : Piece) → starts_with nat_eq bytes entry.0 ≡ false → Spells table bytes p → Spells (entry ∷ table) bytes p
spells_later entry table bytes (a.Blank len ends_line) other spells = tt
spells_later entry table bytes (a.Token kind len) other spells =
    cond-false _ _ _ (false_from_ne_true (bytes_eq entry.0 (take len bytes)) (λ same.
    let is : entry.0 ≡ take len bytes = (bytes_eq-Decides entry.0 (take len bytes)).0 same in
    let front : take len bytes ≡ take (length entry.0) bytes = sym (take_min len bytes) ∙ ap (λ n. take n bytes) (sym (ap length is ∙ length-take len bytes)) in
    true≢false (sym ((bytes_eq-Decides entry.0 (take (length entry.0) bytes)).1 (is ∙ front)) ∙ other)))
    ∙ spells
spells_later entry table bytes (a.Fault kind at) other spells = tt
spells_later entry table bytes (a.Open kind) other spells = tt

table_sound : (table : List Row) (bytes : List ℕ) → Spells table bytes (first_operator table bytes)
table_sound [] bytes = tt
table_sound (entry ∷ table) bytes =
    tested (Spells (entry ∷ table) bytes) (starts_with nat_eq bytes entry.0) _ _
    (λ found. cond-true _ _ _ ((bytes_eq-Decides entry.0 (take (length entry.0) bytes)).1 (starts_with_is bytes entry.0 found)))
    (λ other. spells_later entry table bytes (first_operator table bytes) other (table_sound table bytes))

pub operator_sound : (bytes : List ℕ) → Spells operators bytes (operator bytes)
unfolding operator
operator_sound bytes = table_sound operators bytes
