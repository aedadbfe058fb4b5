-- Which fault stands at the front of some bytes: what is read there is just what the relation says.
use Rattle.std.proofs.Common.{◌≡◌, ◌≢◌, ℕ, suc, ◌+◌, ◌-◌, ◌<◌, ◌≤◌, Bool, true, false, cond, List, [], ◌∷◌, ◌++◌, length, take, drop, refl, sym, ap, ◌∙◌, subst, arith, ⊎_elim, append_assoc}
use Rattle.std.specs.Prelude.{◌⊎◌, Option, Some, None, is_some, ◌==◌, ◌&&◌, ◌||◌, not, slice_index, nat_lt, nat_le, nat_eq}
use Rattle.std.proofs.Common.{inl, inr}
use Rattle.std.specs.List.{concat, list_all, list_any, position_or_len, starts_with}
use Rattle.std.proofs.lemmas.Bool.{cases_Bool, and_parts, and_from, or_from, or_parts, true≢false, eqb-true, eqb-false, eq-eqb, ne_eqb, ltb-true, ltb-false, lt-ltb, le-ltb, leb-true, le-leb, cond-true, cond-false, false_from_ne_true}
use Rattle.std.proofs.lemmas.List.{take_at, take-append-drop, length_push}
use Rattle.std.proofs.lemmas.List.Elements.{recursion_from_All}
use Rattle.ui_scan.specs.Digits.{number_of, greatest, whole}
use Rattle.ui_scan.specs.Language.{IsItem, IsRuneBody, IsRune, HasDigits, IsFaulty, IsToken}
use Rattle.ui_scan.specs.Language.HasDigits.{marked, octal, decimal}
use Rattle.ui_scan.specs.Language.IsFaulty.{goes_on, no_int, point as a_point}
use Rattle.ui_scan.specs.Language.IsToken.{identifier, keyword, operator as operator_token, int, rune as rune_token, string as string_token, raw_string as raw_token}
use Rattle.ui_scan.specs.Letters.{begins_name, name_len}
use Rattle.ui_scan.specs.Literal.{behind, string, string_piece, rune, rune_piece, rune_code, raw_string, raw_end, body}
use Rattle.ui_scan.specs.Number.{radix, number, whole_number, within, begins_fraction, is_numeral}
use Rattle.ui_scan.specs.Piece.{piece, lexeme, word, word_or_operator, line_comment, general_comment, comment_len, comment_piece, is_line_end, is_blank, is_decimal}
use Rattle.ui_scan.specs.Table.{Row, keywords, operators, spelled, operator, first_operator}
use Rattle.ui_scan.specs.Tokens.{begins_blank}
use Rattle.ui_scan.specs.Value.{inside}
use Rattle.std.specs.Str.{bytes_eq}
use Rattle.ui_scan.specs.declared.kind.ScanKind.{ScanKind}
use Rattle.ui_scan.specs.declared.kind.ScanKind.TheVariants as fault
use Rattle.ui_scan.specs.declared.kind.TokenKind.{TokenKind}
use Rattle.ui_scan.specs.declared.kind.TokenKind.TheVariants as kind
use Rattle.ui_scan.specs.declared.literal.Body.{Body}
use Rattle.ui_scan.specs.declared.literal.Body.TheVariants.{Closed, Newline, BadEscape, Open}
use Rattle.ui_scan.specs.declared.piece.Piece.{Piece}
use Rattle.ui_scan.specs.declared.piece.Piece.TheVariants as a
use Rattle.ui_scan.proofs.BlankLaws.{piece_by_lexeme}
use Rattle.ui_scan.proofs.LiteralLaws.{body_closed, body_newline, body_open}
use Rattle.ui_scan.proofs.LiteralLanguage.{string_reads, rune_reads, raw_string_reads, rune_sound}
use Rattle.ui_scan.proofs.NumberLanguage.{int_reads}
use Rattle.ui_scan.proofs.OperatorLanguage.{Spells, operator_reads, operator_sound}
use Rattle.ui_scan.proofs.PieceLaws.{tested}
use Rattle.ui_scan.proofs.Choices.{chosen}
use Rattle.ui_scan.proofs.Readings.{Outdone, Reads, Sound}
use Rattle.ui_scan.proofs.WordLanguage.{identifier_reads, keyword_reads, word_sound}
use Rattle.ui_tokens.specs.Faults.{behind_number, number_len, number_digits, IsAlone, IsFaultyNumber, Opens, IsFaultyLiteral, IsStray, IsFaultAt, IsOpen}
use Rattle.ui_tokens.specs.Faults.IsFaultyNumber.{point, float, imaginary, no_numeral, too_big}
use Rattle.ui_tokens.specs.Faults.IsFaultyLiteral.{cut_string, cut_rune, no_rune, in_string, in_rune}
use Rattle.ui_tokens.specs.Faults.IsFaultAt.{number as a_number, literal, stray}
use Rattle.ui_tokens.specs.Faults.IsOpen.{comment as open_comment, string as open_string, raw_string as open_raw_string, rune as open_rune}
use Rattle.ui_tokens.proofs.Bodies.{BodyIs, body_is, opens, items_passed, bad_body}
use Rattle.ui_tokens.proofs.LiteralValues.{inside_is, rune_body_code}

-- what the relations say of a piece that is no token and no white space
abbrev pub Explains : List ℕ → Piece → Type 0
Explains bytes (a.Blank len ends) = Unit {0}
Explains bytes (a.Token kind len) = Unit {0}
Explains bytes (a.Fault kind at) = IsFaultAt bytes kind at
Explains bytes (a.Open kind) = IsOpen bytes kind

abbrev is_rune_kind : TokenKind → Bool
is_rune_kind kind.Rune = true
is_rune_kind _ = false

-- ---- which reader a first byte chooses

number_byte : (b : ℕ) → is_decimal b ≡ true → (48 ≤ b) × (b ≤ 57)
number_byte b digit = let range = and_parts (nat_le 48 b) (nat_le b 57) digit in (leb-true 48 b range.0, leb-true b 57 range.1)

lexeme_number : (bytes : List ℕ) → is_decimal (slice_index bytes 0) ≡ true → lexeme bytes ≡ number bytes
unfolding lexeme
lexeme_number bytes digit =
    let b = slice_index bytes 0 in
    let range = number_byte b digit in
    cond-false _ _ _ (ne_eqb b 34 (λ e. omega (arith, e, range.0))) ∙ cond-false _ _ _ (ne_eqb b 39 (λ e. omega (arith, e, range.0)))
    ∙ cond-false _ _ _ (ne_eqb b 96 (λ e. omega (arith, e, range.1))) ∙ cond-true _ _ _ digit

no_blank_number : (bytes : List ℕ) → is_decimal (slice_index bytes 0) ≡ true → begins_blank bytes ≡ false
no_blank_number bytes digit =
    let b = slice_index bytes 0 in
    let next = slice_index bytes 1 in
    let range = number_byte b digit in
    or_from (b == 10) _ (ne_eqb b 10 (λ e. omega (arith, e, range.0)))
    (or_from (is_blank b) _ (or_from (b == 32) _ (ne_eqb b 32 (λ e. omega (arith, e, range.0)))
    (or_from (b == 9) (b == 13) (ne_eqb b 9 (λ e. omega (arith, e, range.0))) (ne_eqb b 13 (λ e. omega (arith, e, range.0)))))
    (let slash : (b == 47) ≡ false = ne_eqb b 47 (λ e. omega (arith, e, range.0)) in
    ap (λ t. (t && next == 47) || (t && next == 42)) slash))

piece_number : (bytes : List ℕ) → is_decimal (slice_index bytes 0) ≡ true → piece bytes ≡ number bytes
piece_number bytes digit = piece_by_lexeme bytes (no_blank_number bytes digit) ∙ lexeme_number bytes digit

no_blank_point : (bytes : List ℕ) → slice_index bytes 0 ≡ 46 → begins_blank bytes ≡ false
no_blank_point bytes is =
    let next = slice_index bytes 1 in
    ap (λ b. is_line_end b || (is_blank b || ((b == 47 && next == 47) || (b == 47 && next == 42)))) is

piece_point : (bytes : List ℕ) → slice_index bytes 0 ≡ 46 → is_decimal (slice_index bytes 1) ≡ true → piece bytes ≡ a.Fault fault.FloatLiteral 0
unfolding lexeme
piece_point bytes is digit =
    piece_by_lexeme bytes (no_blank_point bytes is)
    ∙ ap (λ b. cond (b == 34) (string bytes) (cond (b == 39) (rune bytes) (cond (b == 96) (raw_string bytes) (cond (is_decimal b) (number bytes)
    (cond (b == 46 && is_decimal (slice_index bytes 1)) (a.Fault fault.FloatLiteral 0) (word_or_operator bytes)))))) is
    ∙ cond-true (is_decimal (slice_index bytes 1)) (a.Fault fault.FloatLiteral 0) (word_or_operator bytes) digit

piece_string : (bytes : List ℕ) → piece (34 ∷ bytes) ≡ string_piece (body 34 bytes)
unfolding piece lexeme string
piece_string bytes = refl

piece_rune : (bytes : List ℕ) → piece (39 ∷ bytes) ≡ rune_piece (39 ∷ bytes) (body 39 bytes)
unfolding piece lexeme rune
piece_rune bytes = refl

piece_raw : (bytes : List ℕ) → piece (96 ∷ bytes) ≡ cond (nat_lt (raw_end (96 ∷ bytes)) (length (96 ∷ bytes))) (a.Token kind.Str (raw_end (96 ∷ bytes) + 1)) (a.Open fault.OpenString)
unfolding piece lexeme raw_string
piece_raw bytes = refl

piece_comment : (bytes : List ℕ) → piece (47 ∷ 42 ∷ bytes) ≡ comment_piece (47 ∷ 42 ∷ bytes) (comment_len bytes)
unfolding piece general_comment
piece_comment bytes = refl

lexeme_other : (bytes : List ℕ) → (slice_index bytes 0 == 34) ≡ false → (slice_index bytes 0 == 39) ≡ false → (slice_index bytes 0 == 96) ≡ false
    → is_decimal (slice_index bytes 0) ≡ false → (slice_index bytes 0 == 46 && is_decimal (slice_index bytes 1)) ≡ false → lexeme bytes ≡ word_or_operator bytes
unfolding lexeme
lexeme_other bytes s r q n p = cond-false _ _ _ s ∙ cond-false _ _ _ r ∙ cond-false _ _ _ q ∙ cond-false _ _ _ n ∙ cond-false _ _ _ p

-- ---- numbers

number_explained : (bytes : List ℕ) → is_decimal (slice_index bytes 0) ≡ true → Explains bytes (number bytes)
unfolding number whole_number whole
number_explained bytes digit =
    let r = radix bytes in
    let end = number_len bytes in
    let next = behind_number bytes in
    let digits = number_digits bytes in
    tested (Explains bytes) (begins_fraction next) _ _ (λ f. a_number refl (float refl digit f))
    (λ no_f. tested (Explains bytes) (next == 105) _ _ (λ i. a_number refl (imaginary refl digit no_f (eqb-true next 105 i)))
    (λ no_i. tested (Explains bytes) (is_numeral r.base digits) _ _
    (λ numeral. tested (λ o. Explains bytes (within end o)) (nat_lt greatest (number_of r.base digits)) _ _
    (λ past. a_number refl (too_big refl (record { digit = digit; no_fraction = no_f; no_mark = no_i }) numeral (ltb-true greatest (number_of r.base digits) past)))
    (λ _. tt))
    (λ other. a_number refl (no_numeral refl (record { digit = digit; no_fraction = no_f; no_mark = no_i }) other))))

whole_read : (bytes : List ℕ) → (is : IsAlone bytes) → piece bytes ≡ whole_number (radix bytes).base (number_digits bytes) (number_len bytes)
unfolding number
whole_read bytes is = piece_number bytes is.digit ∙ cond-false _ _ _ is.no_fraction ∙ cond-false _ _ _ is.no_mark

number_read : (bytes : List ℕ) (kind : ScanKind) → IsFaultyNumber bytes kind → piece bytes ≡ a.Fault kind 0
unfolding number whole_number whole
number_read bytes kind (point is dot digit) = piece_point bytes dot digit ∙ ap (λ k. a.Fault k 0) (sym is)
number_read bytes kind (float is digit f) = piece_number bytes digit ∙ cond-true _ _ _ f ∙ ap (λ k. a.Fault k 0) (sym is)
number_read bytes kind (imaginary is digit no_f i) =
    piece_number bytes digit ∙ cond-false _ _ _ no_f ∙ cond-true _ _ _ (eq-eqb (behind_number bytes) 105 i) ∙ ap (λ k. a.Fault k 0) (sym is)
number_read bytes kind (no_numeral is one other) = whole_read bytes one ∙ cond-false _ _ _ other ∙ ap (λ k. a.Fault k 0) (sym is)
number_read bytes kind (too_big is one numeral past) =
    whole_read bytes one ∙ cond-true _ _ _ numeral
    ∙ ap (within (number_len bytes)) (cond-true _ _ _ (lt-ltb greatest (number_of (radix bytes).base (number_digits bytes)) past))
    ∙ ap (λ k. a.Fault k 0) (sym is)

-- ---- literals in quotes

string_explained : (b : ℕ) (bytes : List ℕ) → b ≡ 34 → Explains (b ∷ bytes) (string_piece (body 34 bytes))
string_explained b bytes is = by_body (body 34 bytes) (body_is 34 bytes)
  where
    by_body : (r : Body) → BodyIs 34 bytes r → Explains (b ∷ bytes) (string_piece r)
    by_body (Closed len) s = tt
    by_body Newline s = literal (cut_string s.0 refl refl (opens 34 b s.1 bytes (10 ∷ s.0) is s.2))
    by_body (BadEscape at) s = literal (in_string s.0 refl (opens 34 b at bytes s.0 is s.1) (ap (λ n. 1 + n) (sym s.1.size)) s.2)
    by_body Open s = open_string refl (opens 34 b s.0 bytes [] is s.1)

rune_explained : (b : ℕ) (bytes : List ℕ) → b ≡ 39 → Explains (b ∷ bytes) (rune_piece (b ∷ bytes) (body 39 bytes))
rune_explained b bytes is = by_body (body 39 bytes) (body_is 39 bytes)
  where
    by_body : (r : Body) → BodyIs 39 bytes r → Explains (b ∷ bytes) (rune_piece (b ∷ bytes) r)
    by_body (Closed len) s =
        let front : take (len - 1) bytes ≡ concat s.2.items = ap (take (len - 1)) s.2.spelling ∙ take_at (concat s.2.items) (39 ∷ s.0) (len - 1) s.2.size in
        tested (Explains (b ∷ bytes)) (is_some (rune_code (take (len - 1) bytes))) _ _ (λ _. tt)
        (λ none. literal (no_rune s.0 refl refl (opens 39 b (len - 1) bytes (39 ∷ s.0) is s.2)
        (λ one. let c = rune_body_code (concat s.2.items) one in true≢false (sym (ap is_some (ap rune_code front ∙ c.1)) ∙ none))))
    by_body Newline s = literal (cut_rune s.0 refl refl (opens 39 b s.1 bytes (10 ∷ s.0) is s.2))
    by_body (BadEscape at) s = literal (in_rune s.0 refl (opens 39 b at bytes s.0 is s.1) (ap (λ n. 1 + n) (sym s.1.size)) s.2)
    by_body Open s = open_rune refl (opens 39 b s.0 bytes [] is s.1)

abbrev is_back_quote : ℕ → Bool
is_back_quote b = b == 96

none_before : (bytes : List ℕ) → length bytes ≤ position_or_len is_back_quote bytes → list_any is_back_quote bytes ≡ false
none_before [] le = refl
none_before (b ∷ bytes) le = ⊎_elim
    (λ quote. absurd (let e : position_or_len is_back_quote (b ∷ bytes) ≡ 0 = ap (λ t. cond (not t) (1 + position_or_len is_back_quote bytes) 0) quote in let x : ⊥ = omega (arith, e, le) in x))
    (λ other.
    let e : position_or_len is_back_quote (b ∷ bytes) ≡ 1 + position_or_len is_back_quote bytes = ap (λ t. cond (not t) (1 + position_or_len is_back_quote bytes) 0) other in
    or_from (b == 96) (list_any is_back_quote bytes) other (none_before bytes (omega (arith, e, le))))
    (cases_Bool (b == 96))

all_before : (bytes : List ℕ) → list_any is_back_quote bytes ≡ false → position_or_len is_back_quote bytes ≡ length bytes
all_before [] none = refl
all_before (b ∷ bytes) none =
    let parts = or_parts (b == 96) (list_any is_back_quote bytes) none in
    ap (λ t. cond (not t) (1 + position_or_len is_back_quote bytes) 0) parts.0 ∙ (let e = all_before bytes parts.1 in omega (arith, e))

raw_explained : (b : ℕ) (bytes : List ℕ) → b ≡ 96 → Explains (b ∷ bytes) (raw_string (b ∷ bytes))
unfolding raw_string
raw_explained b bytes is =
    tested (Explains (b ∷ bytes)) (nat_lt (raw_end (b ∷ bytes)) (length (b ∷ bytes))) _ _ (λ _. tt)
    (λ past. open_raw_string bytes refl (ap (λ x. x ∷ bytes) is) (none_before bytes (let le = ltb-false (raw_end (b ∷ bytes)) (length (b ∷ bytes)) past in omega (arith, le))))

-- what stands behind a quote and some items
at_left : (quote : ℕ) (bytes left : List ℕ) (r : Body) → quote ≢ 92 → (o : Opens quote bytes left) → body quote left ≡ r → body quote (concat o.items ++ left) ≡ behind (length (concat o.items)) r
at_left quote bytes left r ne o is = items_passed quote o.items left ne (recursion_from_All (IsItem quote) o.items o.each) ∙ ap (behind (length (concat o.items))) is

string_left : (bytes left : List ℕ) (r : Body) → (o : Opens 34 bytes left) → body 34 left ≡ r → piece bytes ≡ string_piece (behind (length (concat o.items)) r)
string_left bytes left r o is = ap piece o.spelling ∙ piece_string (concat o.items ++ left) ∙ ap string_piece (at_left 34 bytes left r (λ e. omega (arith, e)) o is)

rune_left : (bytes left : List ℕ) (r : Body) → (o : Opens 39 bytes left) → body 39 left ≡ r
    → piece bytes ≡ rune_piece (39 ∷ (concat o.items ++ left)) (behind (length (concat o.items)) r)
rune_left bytes left r o is =
    ap piece o.spelling ∙ piece_rune (concat o.items ++ left) ∙ ap (rune_piece (39 ∷ (concat o.items ++ left))) (at_left 39 bytes left r (λ e. omega (arith, e)) o is)

told_as : (p : Piece) (k kind : ScanKind) (n at : ℕ) → p ≡ a.Fault k n → kind ≡ k → at ≡ n → p ≡ a.Fault kind at
told_as p k kind n at is same place = is ∙ ap (λ x. a.Fault x n) (sym same) ∙ ap (a.Fault kind) (sym place)

-- a rune that is read is one character or escape
abbrev no_rune_kind : Row → Bool
no_rune_kind entry = not (is_rune_kind entry.1)

spelled_no_rune : (table : List Row) (text : List ℕ) → list_all no_rune_kind table ≡ true → spelled table text ≡ Some kind.Rune → ⊥
spelled_no_rune [] text each is = cc
spelled_no_rune (entry ∷ table) text each is =
    let parts = and_parts (no_rune_kind entry) (list_all no_rune_kind table) each in
    ⊎_elim
    (λ both. true≢false (sym parts.0 ∙ ap (λ k. not (is_rune_kind k)) (let e : Some entry.1 ≡ Some kind.Rune = both.1 in let f : entry.1 ≡ kind.Rune = cc in f)))
    (λ both. spelled_no_rune table text parts.1 both.1)
    (chosen (bytes_eq entry.0 text) (Some entry.1) (spelled table text) (Some kind.Rune) is)

keyword_no_rune : (text : List ℕ) → spelled keywords text ≡ Some kind.Rune → ⊥
unfolding keywords
keyword_no_rune text is = spelled_no_rune keywords text refl is

operator_no_rune : (text : List ℕ) → spelled operators text ≡ Some kind.Rune → ⊥
unfolding operators
operator_no_rune text is = spelled_no_rune operators text refl is

rune_of : (text : List ℕ) → IsToken kind.Rune text → IsRune text
rune_of text (identifier is i) = absurd cc
rune_of text (keyword is) = absurd (keyword_no_rune text is)
rune_of text (operator_token is) = absurd (operator_no_rune text is)
rune_of text (int is i) = absurd cc
rune_of text (rune_token is r) = r
rune_of text (string_token is s) = absurd cc
rune_of text (raw_token is r) = absurd cc

rune_read : (inner rest : List ℕ) → rune (39 ∷ (inner ++ 39 ∷ rest)) ≡ a.Token kind.Rune (1 + (length inner + 1)) → IsRuneBody inner
rune_read inner rest is =
    let bytes = 39 ∷ (inner ++ 39 ∷ rest) in
    let token : IsToken kind.Rune (take (1 + (length inner + 1)) bytes) = subst (Sound bytes) is (rune_sound bytes refl) in
    let text : take (1 + (length inner + 1)) bytes ≡ 39 ∷ (inner ++ 39 ∷ []) =
    ap (λ n. take n bytes) (let e : 1 + (length inner + 1) ≡ suc (length inner + 1) = omega arith in e)
    ∙ ap (λ t. 39 ∷ t) (ap (take (length inner + 1)) (sym (append_assoc inner (39 ∷ []) rest)) ∙ take_at (inner ++ 39 ∷ []) rest (length inner + 1) (length_push inner 39)) in
    let r = rune_of (39 ∷ (inner ++ 39 ∷ [])) (subst (IsToken kind.Rune) text token) in
    subst IsRuneBody (sym (inside_is 39 r.body) ∙ ap inside (sym r.spelling) ∙ inside_is 39 inner) r.one

rune_bytes : (bytes : List ℕ) → rune (39 ∷ bytes) ≡ rune_piece (39 ∷ bytes) (body 39 bytes)
unfolding rune
rune_bytes bytes = refl

closed_rune : (bytes left : List ℕ) → (o : Opens 39 bytes (39 ∷ left)) → (IsRuneBody (concat o.items) → ⊥) → piece bytes ≡ a.Fault fault.BadRune 0
closed_rune bytes left o apart =
    let inner = concat o.items in
    let all_ = 39 ∷ (inner ++ 39 ∷ left) in
    let closed = body_closed 39 39 left refl in
    let n = length inner in
    rune_left bytes (39 ∷ left) (Closed 1) o closed ∙ ⊎_elim
    (λ some_. absurd (apart (rune_read inner left
    (rune_bytes (inner ++ 39 ∷ left) ∙ ap (rune_piece all_) (at_left 39 bytes (39 ∷ left) (Closed 1) (λ e. omega (arith, e)) o closed) ∙ cond-true _ _ _ some_))))
    (λ none. cond-false _ _ _ none)
    (cases_Bool (is_some (rune_code (take (n + 1 - 1) (inner ++ 39 ∷ left)))))

pub literal_read : (bytes : List ℕ) (kind : ScanKind) (at : ℕ) → IsFaultyLiteral bytes kind at → piece bytes ≡ a.Fault kind at
literal_read bytes kind at (cut_string left is zero_ o) =
    told_as (piece bytes) fault.NewlineInString kind 0 at (string_left bytes (10 ∷ left) Newline o (body_newline 34 10 left (λ e. omega (arith, e)) refl)) is zero_
literal_read bytes kind at (cut_rune left is zero_ o) =
    told_as (piece bytes) fault.BadRune kind 0 at (rune_left bytes (10 ∷ left) Newline o (body_newline 39 10 left (λ e. omega (arith, e)) refl)) is zero_
literal_read bytes kind at (no_rune left is zero_ o apart) = told_as (piece bytes) fault.BadRune kind 0 at (closed_rune bytes left o apart) is zero_
literal_read bytes kind at (in_string left is o place bad) =
    told_as (piece bytes) fault.BadEscape kind (1 + (length (concat o.items) + 0)) at (string_left bytes left (BadEscape 0) o (bad_body 34 left (λ e. omega (arith, e)) bad)) is (omega (arith, place))
literal_read bytes kind at (in_rune left is o place bad) =
    told_as (piece bytes) fault.BadEscape kind (1 + (length (concat o.items) + 0)) at (rune_left bytes left (BadEscape 0) o (bad_body 39 left (λ e. omega (arith, e)) bad)) is (omega (arith, place))

pub open_read : (bytes : List ℕ) (kind : ScanKind) → IsOpen bytes kind → piece bytes ≡ a.Open kind
open_read bytes kind (open_comment inner is spelling none) = ap piece spelling ∙ piece_comment inner ∙ ap (comment_piece (47 ∷ 42 ∷ inner)) none ∙ ap a.Open (sym is)
open_read bytes kind (open_string is o) = string_left bytes [] Open o (body_open 34 [] refl) ∙ ap a.Open (sym is)
open_read bytes kind (open_raw_string inner is spelling none) =
    ap piece spelling ∙ piece_raw inner
    ∙ cond-false _ _ _ (le-ltb (raw_end (96 ∷ inner)) (length (96 ∷ inner)) (let e = all_before inner none in omega (arith, e))) ∙ ap a.Open (sym is)
open_read bytes kind (open_rune is o) = rune_left bytes [] Open o (body_open 39 [] refl) ∙ ap a.Open (sym is)

-- ---- stray bytes

begins_digit : (base : ℕ) (digits text rest : List ℕ) → HasDigits base digits text → is_decimal (slice_index (text ++ rest) 0) ≡ true
begins_digit base digits text rest (marked mark spelling is) = ap (λ t. is_decimal (slice_index (t ++ rest) 0)) spelling
begins_digit base digits text rest (octal after spelling first is) = ap (λ t. is_decimal (slice_index (t ++ rest) 0)) (spelling ∙ first)
begins_digit base digits text rest (decimal first after spelling begins range is) =
    let parts = and_parts (nat_le 49 first) (nat_le first 57) range in
    ap (λ t. is_decimal (slice_index (t ++ rest) 0)) (spelling ∙ begins)
    ∙ and_from (nat_le 48 first) (nat_le first 57) (le-leb 48 first (omega (arith, leb-true 49 first parts.0))) parts.1

-- a digit, or a point before one
abbrev BeginsNumber : List ℕ → Type 0
BeginsNumber bytes = (is_decimal (slice_index bytes 0) ≡ true) ⊎ ((slice_index bytes 0 ≡ 46) × (is_decimal (slice_index bytes 1) ≡ true))

faulty_begins : (text rest : List ℕ) → IsFaulty text → BeginsNumber (text ++ rest)
faulty_begins text rest (goes_on run b spelling is badly) =
    subst BeginsNumber (sym (ap (λ t. t ++ rest) spelling ∙ append_assoc run (b ∷ []) rest)) (inl (begins_digit is.base is.digits run (b ∷ rest) is.number))
faulty_begins text rest (no_int is apart) = inl (begins_digit is.base is.digits text rest is.number)
faulty_begins text rest (a_point b spelling digit) = subst (λ t. BeginsNumber (t ++ rest)) (sym spelling) (inr (refl, digit))

token_reads : (k : TokenKind) (text rest : List ℕ) → IsToken k text → Reads (text ++ rest) k (length text) (lexeme (text ++ rest))
token_reads k text rest (identifier is name) = identifier_reads k text rest is name
token_reads k text rest (keyword is) = keyword_reads k text rest is
token_reads k text rest (operator_token is) = operator_reads k text rest is
token_reads k text rest (int is i) = int_reads k text rest is i
token_reads k text rest (rune_token is r) = rune_reads k text rest is r
token_reads k text rest (string_token is s) = string_reads k text rest is s
token_reads k text rest (raw_token is r) = raw_string_reads k text rest is r

no_token_there : (bytes : List ℕ) → (BeginsNumber bytes → ⊥) → lexeme bytes ≡ a.Fault fault.BadByte 0 → (k : TokenKind) (text rest : List ℕ) → IsToken k text → bytes ≡ text ++ rest → ⊥
no_token_there bytes no_number read k text rest token spelling =
    let reads : Reads bytes k (length text) (lexeme bytes) = subst (λ t. Reads t k (length text) (lexeme t)) (sym spelling) (token_reads k text rest token) in
    let o : Outdone bytes (length text) = subst (Reads bytes k (length text)) read reads in
    no_number (subst BeginsNumber (sym o.spelling) (faulty_begins o.text o.rest o.faulty))

abbrev OnlyStray : Piece → Type 0
OnlyStray (a.Blank len ends) = ⊥
OnlyStray (a.Token k len) = Unit {0}
OnlyStray (a.Fault k at) = (k ≡ fault.BadByte) × (at ≡ 0)
OnlyStray (a.Open k) = ⊥

first_only : (table : List Row) (bytes : List ℕ) → OnlyStray (first_operator table bytes)
first_only [] bytes = (refl, refl)
first_only (entry ∷ table) bytes = tested OnlyStray (starts_with nat_eq bytes entry.0) _ _ (λ _. tt) (λ _. first_only table bytes)

operator_only : (bytes : List ℕ) → OnlyStray (operator bytes)
unfolding operator
operator_only bytes = first_only operators bytes

pub stray_read : (bytes : List ℕ) → IsStray bytes → piece bytes ≡ a.Fault fault.BadByte 0
unfolding word
stray_read bytes is =
    let b = slice_index bytes 0 in
    piece_by_lexeme bytes is.no_blank
    ∙ lexeme_other bytes (ne_eqb b 34 is.no_string) (ne_eqb b 39 is.no_rune) (ne_eqb b 96 is.no_raw_string) is.no_number
    (false_from_ne_true (b == 46 && is_decimal (slice_index bytes 1)) (λ t. let p = and_parts (b == 46) (is_decimal (slice_index bytes 1)) t in is.no_point (eqb-true b 46 p.0) p.1))
    ∙ ⊎_elim
    (λ begins. absurd (is.no_token _ (take (name_len bytes) bytes) (drop (name_len bytes) bytes) (word_sound bytes begins) (sym (take-append-drop (name_len bytes) bytes))))
    (λ no_name. cond-false _ _ _ no_name ∙ by_operator (operator bytes) (operator_only bytes) (operator_sound bytes))
    (cases_Bool (begins_name bytes))
  where
    by_operator : (p : Piece) → OnlyStray p → Spells operators bytes p → p ≡ a.Fault fault.BadByte 0
    by_operator (a.Blank len ends) only spells = absurd only
    by_operator (a.Token k len) only spells = absurd (is.no_token k (take len bytes) (drop len bytes) (operator_token spells) (sym (take-append-drop len bytes)))
    by_operator (a.Fault k at) only spells = ap (λ x. a.Fault x at) only.0 ∙ ap (a.Fault fault.BadByte) only.1
    by_operator (a.Open k) only spells = absurd only

-- ---- any piece

module _ (bytes : List ℕ) (le : 0 < length bytes) (no_blank : begins_blank bytes ≡ false) (s : (slice_index bytes 0 == 34) ≡ false) (r : (slice_index bytes 0 == 39) ≡ false)
    (q : (slice_index bytes 0 == 96) ≡ false) (n : is_decimal (slice_index bytes 0) ≡ false) (p : (slice_index bytes 0 == 46 && is_decimal (slice_index bytes 1)) ≡ false) where
  no_number : BeginsNumber bytes → ⊥
  no_number (inl digit) = true≢false (sym digit ∙ n)
  no_number (inr pointed) = true≢false (sym (and_from (slice_index bytes 0 == 46) (is_decimal (slice_index bytes 1)) (eq-eqb (slice_index bytes 0) 46 pointed.0) pointed.1) ∙ p)

  by_operator : (x : Piece) → lexeme bytes ≡ x → OnlyStray x → Explains bytes x
  by_operator (a.Blank len ends) is only = absurd only
  by_operator (a.Token k len) is only = tt
  by_operator (a.Fault k at) is only = stray only.0 only.1 (record {
    some_bytes = le;
    no_blank = no_blank;
    no_string = eqb-false (slice_index bytes 0) 34 s;
    no_rune = eqb-false (slice_index bytes 0) 39 r;
    no_raw_string = eqb-false (slice_index bytes 0) 96 q;
    no_number = n;
    no_point = λ dot digit. no_number (inr (dot, digit));
    no_token = no_token_there bytes no_number (is ∙ ap (λ x. a.Fault x at) only.0 ∙ ap (a.Fault fault.BadByte) only.1);
  })
  by_operator (a.Open k) is only = absurd only

  other_explained : Explains bytes (word_or_operator bytes)
  unfolding word
  other_explained =
      tested (Explains bytes) (begins_name bytes) (word bytes) (operator bytes) (λ _. tt)
      (λ no_name. by_operator (operator bytes) (lexeme_other bytes s r q n p ∙ cond-false _ _ _ no_name) (operator_only bytes))

lexeme_explained : (bytes : List ℕ) → 0 < length bytes → begins_blank bytes ≡ false → Explains bytes (lexeme bytes)
unfolding lexeme string rune
lexeme_explained [] le no_blank = absurd (omega arith)
lexeme_explained (b ∷ bytes) le no_blank =
    let all_ = b ∷ bytes in
    tested (Explains all_) (b == 34) _ _ (λ e. string_explained b bytes (eqb-true b 34 e))
    (λ s. tested (Explains all_) (b == 39) _ _ (λ e. rune_explained b bytes (eqb-true b 39 e))
    (λ r. tested (Explains all_) (b == 96) _ _ (λ e. raw_explained b bytes (eqb-true b 96 e))
    (λ q. tested (Explains all_) (is_decimal b) _ _ (λ digit. number_explained all_ digit)
    (λ n. tested (Explains all_) (b == 46 && is_decimal (slice_index bytes 0)) _ _
    (λ e. let p = and_parts (b == 46) (is_decimal (slice_index bytes 0)) e in a_number refl (point refl (eqb-true b 46 p.0) p.1))
    (λ p. other_explained all_ le no_blank s r q n p)))))

comment_explained : (b c : ℕ) (bytes : List ℕ) → b ≡ 47 → c ≡ 42 → (o : Option ℕ) → comment_len bytes ≡ o → Explains (b ∷ c ∷ bytes) (comment_piece (b ∷ c ∷ bytes) o)
comment_explained b c bytes e f None is = open_comment bytes refl (ap (λ x. x ∷ c ∷ bytes) e ∙ ap (λ y. 47 ∷ y ∷ bytes) f) is
comment_explained b c bytes e f (Some n) is = tt

general_explained : (bytes : List ℕ) → slice_index bytes 0 ≡ 47 → slice_index bytes 1 ≡ 42 → Explains bytes (general_comment bytes)
unfolding general_comment
general_explained [] e f = absurd (omega (arith, e))
general_explained (b ∷ []) e f = absurd (omega (arith, f))
general_explained (b ∷ c ∷ bytes) e f = comment_explained b c bytes e f (comment_len bytes) refl

pub piece_explained : (bytes : List ℕ) → 0 < length bytes → Explains bytes (piece bytes)
unfolding piece line_comment
piece_explained bytes le =
    let b = slice_index bytes 0 in
    let next = slice_index bytes 1 in
    tested (Explains bytes) (is_line_end b) _ _ (λ _. tt)
    (λ feed. tested (Explains bytes) (is_blank b) _ _ (λ _. tt)
    (λ white. tested (Explains bytes) (b == 47 && next == 47) _ _ (λ _. tt)
    (λ slash. tested (Explains bytes) (b == 47 && next == 42) _ _
    (λ star. let p = and_parts (b == 47) (next == 42) star in general_explained bytes (eqb-true b 47 p.0) (eqb-true next 42 p.1))
    (λ star. lexeme_explained bytes le (or_from (is_line_end b) _ feed (or_from (is_blank b) _ white (or_from (b == 47 && next == 47) (b == 47 && next == 42) slash star)))))))

pub fault_read : (bytes : List ℕ) (kind : ScanKind) (at : ℕ) → IsFaultAt bytes kind at → piece bytes ≡ a.Fault kind at
fault_read bytes kind at (a_number zero_ is) = told_as (piece bytes) kind kind 0 at (number_read bytes kind is) refl zero_
fault_read bytes kind at (literal is) = literal_read bytes kind at is
fault_read bytes kind at (stray is zero_ s) = told_as (piece bytes) fault.BadByte kind 0 at (stray_read bytes s) is zero_
