-- Runes and strings, as they are spelled and as they are read.
use Rattle.std.proofs.Common.{◌≡◌, ◌≢◌, ℕ, zero, suc, ◌+◌, ◌-◌, ◌<◌, ◌≤◌, Bool, true, false, cond, List, [], ◌∷◌, ◌++◌, length, take, drop, get_or, refl, sym, ap, ◌∙◌, subst, arith, ⊎_elim, append_assoc}
use Rattle.std.specs.Prelude.{Option, Some, None, is_some, ◌==◌, not, slice_index, nat_lt, option_map, option_and_then, encode_utf8}
use Rattle.std.specs.List.{concat, list_any, position_or_len, AllByRecursion}
use Rattle.std.specs.Char.{len_utf8}
use Rattle.std.proofs.lemmas.Bool.{cases_Bool, cases_lt, cases_eq, or_parts, or_from, true≢false, eqb-true, eqb-false, eq-eqb, ne_eqb, lt-ltb, ltb-true, cond-true, cond-false}
use Rattle.std.proofs.lemmas.List.{take_at, take_all, drop_at, take_more, take-take, length-take-le, length-drop, length-append, length_push, get_or-take, append-nil, nil_from_length}
use Rattle.std.proofs.Math.Seq.{take-add}
use Rattle.std.proofs.lemmas.List.Elements.{All-from_recursion, recursion_from_All, All-from_get_or}
use Rattle.std.proofs.lemmas.List.Sums.{passes_at_first}
use Rattle.std.proofs.lemmas.Str.{length-encode, len_utf8_bounds, byte_from_char, inside_one}
use Rattle.ui_scan.specs.Escape.{escape, code_of}
use Rattle.ui_scan.specs.Language.{IsEscape, IsPlain, IsRuneBody, IsRune, IsItem, IsString, IsRawString}
use Rattle.ui_scan.specs.Language.IsItem.{byte, escaped}
use Rattle.ui_scan.specs.Language.IsRuneBody.{char, escaped as one_escape}
use Rattle.ui_scan.specs.Language.IsToken.{string as string_token, rune as rune_token, raw_string as raw_token}
use Rattle.ui_scan.specs.Letters.{front_char}
use Rattle.ui_scan.specs.Literal.{behind, item_len, body, IsBodyIn, rune_code, string, string_piece, rune, rune_piece, raw_end, raw_string}
use Rattle.ui_scan.specs.Piece.{lexeme}
use Rattle.ui_scan.specs.declared.escape.Escape.{Escape}
use Rattle.ui_scan.specs.declared.literal.Body.{Body}
use Rattle.ui_scan.specs.declared.literal.Body.TheVariants.{Closed, Newline, BadEscape, Open}
use Rattle.ui_scan.specs.declared.kind.TokenKind.{TokenKind}
use Rattle.ui_scan.specs.declared.kind.TokenKind.TheVariants.{Rune, Str}
use Rattle.ui_scan.specs.declared.piece.Piece.TheVariants as a
use Rattle.ui_scan.proofs.Choices.{chosen, at_some}
use Rattle.ui_scan.proofs.PieceLaws.{tested}
use Rattle.ui_scan.proofs.LetterLaws.{front_char_begins, front_char-encode}
use Rattle.ui_scan.proofs.LiteralLaws.{IsItemLen, item_len_fits, body_in, body_closed, body_newline, body_bad, body_more, body_open}
use Rattle.ui_scan.proofs.EscapeLanguage.{escape_alike}
use Rattle.ui_scan.proofs.Readings.{Reads, Sound}

-- a byte that stands for itself is passed over
byte_passed : (quote b : ℕ) (rest : List ℕ) → IsPlain quote b → body quote (b ∷ rest) ≡ behind 1 (body quote rest)
unfolding item_len
byte_passed quote b rest plain = body_more quote b 1 rest plain.0 plain.1 (cond-false _ _ _ (ne_eqb b 92 plain.2))

bytes_passed : (quote : ℕ) (bytes rest : List ℕ) (len : ℕ) → AllByRecursion (IsPlain quote) bytes → body quote rest ≡ Closed len → body quote (bytes ++ rest) ≡ Closed (length bytes + len)
bytes_passed quote [] rest len plain closed = closed ∙ ap Closed (omega arith)
bytes_passed quote (b ∷ bytes) rest len plain closed =
    byte_passed quote b (bytes ++ rest) plain.0 ∙ ap (behind 1) (bytes_passed quote bytes rest len plain.1 closed) ∙ ap Closed (omega arith)

-- an escape is passed over
escape_item : (quote : ℕ) (bytes : List ℕ) (e : Escape) → slice_index bytes 0 ≡ 92 → escape quote bytes ≡ Some e → item_len quote bytes ≡ Some e.len
unfolding item_len
escape_item quote bytes e backslash reads = cond-true _ _ _ (eq-eqb (slice_index bytes 0) 92 backslash) ∙ ap (option_map (λ (x : Escape). x.len)) reads

escape_passed : (quote : ℕ) (item rest : List ℕ) (len : ℕ) → quote ≢ 92 → IsEscape quote item → body quote rest ≡ Closed len → body quote (item ++ rest) ≡ Closed (length item + len)
escape_passed quote [] rest len ne is closed = absurd (let e : 0 ≡ 92 = is.backslash in omega arith)
escape_passed quote (b ∷ item) rest len ne is closed =
    let backslash : b ≡ 92 = is.backslash in
    let n = length (b ∷ item) in
    let reads : escape quote ((b ∷ item) ++ rest) ≡ Some is.found =
    escape_alike quote (b ∷ item) ((b ∷ item) ++ rest) is.found
    (record {
      same = ap (λ k. take k (b ∷ item)) is.whole ∙ take_all n (b ∷ item) (omega arith) ∙ sym (ap (λ k. take k ((b ∷ item) ++ rest)) is.whole ∙ take_at (b ∷ item) rest n refl);
      left = omega (arith, is.whole);
      right = omega (arith, is.whole, length-append (b ∷ item) rest);
    }) is.reads in
    let found : item_len quote (b ∷ (item ++ rest)) ≡ Some n = escape_item quote (b ∷ (item ++ rest)) is.found backslash reads ∙ ap Some is.whole in
    body_more quote b n (item ++ rest) (λ e. ne (sym e ∙ backslash)) (λ e. omega (arith, e, backslash)) found
    ∙ ap (λ t. behind n (body quote t)) (drop_at (b ∷ item) rest n refl) ∙ ap (behind n) closed

items_passed : (quote : ℕ) (items : List (List ℕ)) (rest : List ℕ) (len : ℕ) → quote ≢ 92 → AllByRecursion (IsItem quote) items → body quote rest ≡ Closed len
    → body quote (concat items ++ rest) ≡ Closed (length (concat items) + len)
items_passed quote [] rest len ne each closed = closed ∙ ap Closed (omega arith)
items_passed quote (item ∷ items) rest len ne each closed =
    let others = items_passed quote items rest len ne each.1 closed in
    ap (body quote) (append_assoc item (concat items) rest) ∙ by_item item (concat items ++ rest) each.0 others
    ∙ ap Closed (let e = length-append item (concat items) in omega (arith, e))
  where
    by_item : (text after : List ℕ) → IsItem quote text → body quote after ≡ Closed (length (concat items) + len) → body quote (text ++ after) ≡ Closed (length text + (length (concat items) + len))
    by_item text after (byte b plain spelling) others =
        subst (λ t. body quote (t ++ after) ≡ Closed (length t + (length (concat items) + len))) (sym spelling) (bytes_passed quote (b ∷ []) after _ (plain, tt) others)
    by_item text after (escaped is) others = escape_passed quote text after _ ne is others

quote_closes : (quote : ℕ) (rest : List ℕ) → body quote (quote ∷ rest) ≡ Closed 1
quote_closes quote rest = body_closed quote quote rest refl

-- the bytes of a character that stands for itself
plain_bytes : (quote c : ℕ) → quote < 128 → IsPlain quote c → AllByRecursion (IsPlain quote) (encode_utf8 c)
plain_bytes quote c low plain = recursion_from_All (IsPlain quote) (encode_utf8 c) (All-from_get_or (IsPlain quote) (encode_utf8 c) 0 each)
  where
    each : (k : ℕ) → k < length (encode_utf8 c) → IsPlain quote (get_or (encode_utf8 c) k 0)
    each k lt = ⊎_elim
        (λ ascii. subst (IsPlain quote) (inside_one c [] (encode_utf8 c) k (sym (append-nil (encode_utf8 c))) lt ascii) plain)
        (λ (high : 128 ≤ get_or (encode_utf8 c) k 0). ((λ e. omega (arith, e, high, low)), (λ e. omega (arith, e, high)), (λ e. omega (arith, e, high))))
        (cases_lt (get_or (encode_utf8 c) k 0) 128)

-- strings at the front
string_is : (items : List (List ℕ)) (rest : List ℕ) → AllByRecursion (IsItem 34) items
    → lexeme (34 ∷ (concat items ++ 34 ∷ rest)) ≡ a.Token Str (1 + (length (concat items) + 1))
unfolding lexeme string
string_is items rest each = ap string_piece (items_passed 34 items (34 ∷ rest) 1 (λ e. omega (arith, e)) each (quote_closes 34 rest))

pub string_reads : (kind : TokenKind) (text rest : List ℕ) → kind ≡ Str → IsString text → Reads (text ++ rest) kind (length text) (lexeme (text ++ rest))
string_reads kind text rest is s =
    let bytes = 34 ∷ (concat s.items ++ 34 ∷ rest) in
    let cut : text ++ rest ≡ bytes = ap (λ t. t ++ rest) s.spelling ∙ ap (λ t. 34 ∷ t) (append_assoc (concat s.items) (34 ∷ []) rest) in
    let long : length text ≡ 1 + (length (concat s.items) + 1) = omega (arith, ap length s.spelling, length_push (concat s.items) 34) in
    subst (λ t. Reads t kind (length text) (lexeme t)) (sym cut)
    (subst (Reads bytes kind (length text)) (sym (string_is s.items rest (recursion_from_All (IsItem 34) s.items s.each))) (omega (arith, long), (λ _. is)))

-- runes at the front
rune_code_of : (text : List ℕ) → IsRuneBody text → is_some (rune_code text) ≡ true
unfolding rune_code
rune_code_of text (char c value plain spelling) =
    let bytes = encode_utf8 c in
    let front : front_char bytes ≡ Some c = ap front_char (sym (append-nil bytes)) ∙ front_char-encode c [] value in
    let first : (slice_index bytes 0 == 92) ≡ false = ne_eqb (slice_index bytes 0) 92 (first_plain bytes (plain_bytes 39 c (omega arith) plain) (omega (arith, length-encode c, len_utf8_bounds c))) in
    ap (λ t. is_some (rune_code t)) spelling
    ∙ ap is_some (cond-false (slice_index bytes 0 == 92) _ _ first ∙ ap (option_and_then (λ d. cond (len_utf8 d == length bytes) (Some d) None)) front)
    ∙ ap is_some (cond-true (len_utf8 c == length bytes) (Some c) None (eq-eqb (len_utf8 c) (length bytes) (sym (length-encode c))))
  where
    first_plain : (bytes : List ℕ) → AllByRecursion (IsPlain 39) bytes → 1 ≤ length bytes → slice_index bytes 0 ≢ 92
    first_plain [] each le = absurd (omega arith)
    first_plain (b ∷ bytes) each le = each.0.2
rune_code_of text (one_escape is) =
    ap is_some (cond-true _ _ _ (eq-eqb (slice_index text 0) 92 is.backslash) ∙ ap (option_and_then (λ (e : Escape). cond (e.len == length text) (Some (code_of e.stands_for)) None)) is.reads)
    ∙ ap is_some (cond-true _ _ _ (eq-eqb is.found.len (length text) is.whole))

rune_closes : (text rest : List ℕ) → IsRuneBody text → body 39 (text ++ 39 ∷ rest) ≡ Closed (length text + 1)
rune_closes text rest (char c value plain spelling) =
    subst (λ t. body 39 (t ++ 39 ∷ rest) ≡ Closed (length t + 1)) (sym spelling)
    (bytes_passed 39 (encode_utf8 c) (39 ∷ rest) 1 (plain_bytes 39 c (omega arith) plain) (quote_closes 39 rest))
rune_closes text rest (one_escape is) = escape_passed 39 text (39 ∷ rest) 1 (λ e. omega (arith, e)) is (quote_closes 39 rest)

rune_is : (text rest : List ℕ) → IsRuneBody text → lexeme (39 ∷ (text ++ 39 ∷ rest)) ≡ a.Token Rune (1 + (length text + 1))
unfolding lexeme rune
rune_is text rest one =
    let bytes = 39 ∷ (text ++ 39 ∷ rest) in
    let front : take (length text + 1 - 1) (text ++ 39 ∷ rest) ≡ text =
    ap (λ n. take n (text ++ 39 ∷ rest)) (let e : length text + 1 - 1 ≡ length text = omega arith in e) ∙ take_at text (39 ∷ rest) (length text) refl in
    ap (rune_piece bytes) (rune_closes text rest one) ∙ cond-true _ _ _ (ap (λ t. is_some (rune_code t)) front ∙ rune_code_of text one)

pub rune_reads : (kind : TokenKind) (text rest : List ℕ) → kind ≡ Rune → IsRune text → Reads (text ++ rest) kind (length text) (lexeme (text ++ rest))
rune_reads kind text rest is r =
    let bytes = 39 ∷ (r.body ++ 39 ∷ rest) in
    let cut : text ++ rest ≡ bytes = ap (λ t. t ++ rest) r.spelling ∙ ap (λ t. 39 ∷ t) (append_assoc r.body (39 ∷ []) rest) in
    let long : length text ≡ 1 + (length r.body + 1) = omega (arith, ap length r.spelling, length_push r.body 39) in
    subst (λ t. Reads t kind (length text) (lexeme t)) (sym cut)
    (subst (Reads bytes kind (length text)) (sym (rune_is r.body rest r.one)) (omega (arith, long), (λ _. is)))

-- raw strings at the front
abbrev is_back_quote : ℕ → Bool
is_back_quote b = b == 96

first_back_quote : (text rest : List ℕ) → list_any is_back_quote text ≡ false → position_or_len is_back_quote (text ++ 96 ∷ rest) ≡ length text
first_back_quote [] rest none = refl
first_back_quote (b ∷ text) rest none =
    let parts = or_parts (b == 96) (list_any is_back_quote text) none in
    ap (λ t. cond (not t) (1 + position_or_len is_back_quote (text ++ 96 ∷ rest)) 0) parts.0
    ∙ (let e = first_back_quote text rest parts.1 in omega (arith, e))

raw_is : (text rest : List ℕ) → list_any is_back_quote text ≡ false → lexeme (96 ∷ (text ++ 96 ∷ rest)) ≡ a.Token Str (length text + 2)
unfolding lexeme raw_string
raw_is text rest none =
    let bytes = 96 ∷ (text ++ 96 ∷ rest) in
    let at = first_back_quote text rest none in
    cond-true _ _ _ (lt-ltb (raw_end bytes) (length bytes) (omega (arith, at, length-append text (96 ∷ rest))))
    ∙ ap (a.Token Str) (let e : raw_end bytes + 1 ≡ length text + 2 = omega (arith, at) in e)

pub raw_string_reads : (kind : TokenKind) (text rest : List ℕ) → kind ≡ Str → IsRawString text → Reads (text ++ rest) kind (length text) (lexeme (text ++ rest))
raw_string_reads kind text rest is r =
    let bytes = 96 ∷ (r.body ++ 96 ∷ rest) in
    let cut : text ++ rest ≡ bytes = ap (λ t. t ++ rest) r.spelling ∙ ap (λ t. 96 ∷ t) (append_assoc r.body (96 ∷ []) rest) in
    let long : length text ≡ length r.body + 2 = omega (arith, ap length r.spelling, length_push r.body 96) in
    subst (λ t. Reads t kind (length text) (lexeme t)) (sym cut)
    (subst (Reads bytes kind (length text)) (sym (raw_is r.body rest r.no_quote)) (omega (arith, long), (λ _. is)))

-- what is passed over up to the quote is items
record Quoted (quote : ℕ) (bytes : List ℕ) (len : ℕ) : Type 0 where
  items : List (List ℕ)
  spelling : take len bytes ≡ concat items ++ quote ∷ []
  each : AllByRecursion (IsItem quote) items

item_is : (quote b : ℕ) (bytes : List ℕ) (k : ℕ) → b ≢ quote → b ≢ 10 → item_len quote (b ∷ bytes) ≡ Some k → k ≤ suc (length bytes) → 1 ≤ k → IsItem quote (take k (b ∷ bytes))
unfolding item_len
item_is quote b bytes k ne ne' is within low = ⊎_elim
    (λ both. by_escape (escape quote (b ∷ bytes)) refl (eqb-true b 92 both.0) both.1)
    (λ both.
    let one : k ≡ 1 = (let e : Some 1 ≡ Some k = both.1 in cc) in
    byte b (ne, ne', eqb-false b 92 both.0) (ap (λ n. take n (b ∷ bytes)) one))
    (chosen (b == 92) (option_map (λ (e : Escape). e.len) (escape quote (b ∷ bytes))) (Some 1) (Some k) is)
  where
    long : length (take k (b ∷ bytes)) ≡ k
    long = length-take-le k (b ∷ bytes) within

    by_escape : (o : Option Escape) → escape quote (b ∷ bytes) ≡ o → b ≡ 92 → option_map (λ (e : Escape). e.len) o ≡ Some k → IsItem quote (take k (b ∷ bytes))
    by_escape None reads backslash len = absurd (cc)
    by_escape (Some e) reads backslash len =
        let same : e.len ≡ k = cc in
        escaped (record {
          found = e;
          backslash = get_or-take k (b ∷ bytes) 0 0 low ∙ backslash;
          reads = escape_alike quote (b ∷ bytes) (take k (b ∷ bytes)) e (record {
            same = sym (take-take e.len k (b ∷ bytes) (omega (arith, same)));
            left = omega (arith, same, within);
            right = omega (arith, same, long);
          }) reads;
          whole = same ∙ sym long;
        })

-- behind one item
quoted_step : (quote b : ℕ) (bytes : List ℕ) (len : ℕ)
    → ((k rest : ℕ) → 1 ≤ k → body quote (drop k (b ∷ bytes)) ≡ Closed rest → Quoted quote (drop k (b ∷ bytes)) rest)
    → body quote (b ∷ bytes) ≡ Closed len → Quoted quote (b ∷ bytes) len
quoted_step quote b bytes len next closed = ⊎_elim
    (λ is.
    let one : len ≡ 1 = (let e : Closed 1 ≡ Closed len = sym (body_closed quote b bytes is) ∙ closed in cc) in
    record { items = []; spelling = ap (λ n. take n (b ∷ bytes)) one ∙ ap (λ x. x ∷ []) is; each = tt })
    (λ ne. ⊎_elim
    (λ line. absurd (let e : Newline ≡ Closed len = sym (body_newline quote b bytes ne line) ∙ closed in cc))
    (λ ne'. by_item ne ne' (item_len quote (b ∷ bytes)) refl)
    (cases_eq b 10))
    (cases_eq b quote)
  where
    by_rest : (k : ℕ) → b ≢ quote → b ≢ 10 → item_len quote (b ∷ bytes) ≡ Some k → (r : Body) → body quote (drop k (b ∷ bytes)) ≡ r → behind k r ≡ Closed len → Quoted quote (b ∷ bytes) len
    by_rest k ne ne' is (Closed rest) closes same =
        let fits = at_some (IsItemLen (b ∷ bytes)) (item_len quote (b ∷ bytes)) k is (item_len_fits quote (b ∷ bytes) (omega arith)) in
        let others = next k rest fits.some_bytes closes in
        let long : len ≡ k + rest = (let e : Closed (k + rest) ≡ Closed len = same in cc) in
        record {
          items = take k (b ∷ bytes) ∷ others.items;
          spelling = ap (λ n. take n (b ∷ bytes)) long ∙ take-add k rest (b ∷ bytes) ∙ ap (λ t. take k (b ∷ bytes) ++ t) others.spelling
              ∙ sym (append_assoc (take k (b ∷ bytes)) (concat others.items) (quote ∷ []));
          each = (item_is quote b bytes k ne ne' is fits.within fits.some_bytes, others.each);
        }
    by_rest k ne ne' is Newline closes same = absurd (let e : Newline ≡ Closed len = same in cc)
    by_rest k ne ne' is (BadEscape at) closes same = absurd (let e : BadEscape (k + at) ≡ Closed len = same in cc)
    by_rest k ne ne' is Open closes same = absurd (let e : Open ≡ Closed len = same in cc)

    by_item : b ≢ quote → b ≢ 10 → (o : Option ℕ) → item_len quote (b ∷ bytes) ≡ o → Quoted quote (b ∷ bytes) len
    by_item ne ne' None is = absurd (let e : BadEscape 0 ≡ Closed len = sym (body_bad quote b bytes ne ne' is) ∙ closed in cc)
    by_item ne ne' (Some k) is = by_rest k ne ne' is (body quote (drop k (b ∷ bytes))) refl (sym (body_more quote b k bytes ne ne' is) ∙ closed)

quoted_from : (n quote : ℕ) (bytes : List ℕ) (len : ℕ) → length bytes ≤ n → body quote bytes ≡ Closed len → Quoted quote bytes len
quoted_from n quote [] len short closed = absurd (let e : Open ≡ Closed len = sym (body_open quote [] refl) ∙ closed in cc)
quoted_from zero quote (b ∷ bytes) len short closed = absurd (let x : ⊥ = omega arith in x)
quoted_from (suc n) quote (b ∷ bytes) len short closed =
    quoted_step quote b bytes len (λ k rest low closes. quoted_from n quote (drop k (b ∷ bytes)) rest (omega (arith, length-drop k (b ∷ bytes))) closes) closed

quoted : (quote : ℕ) (bytes : List ℕ) (len : ℕ) → body quote bytes ≡ Closed len → Quoted quote bytes len
quoted quote bytes len closed = quoted_from (length bytes) quote bytes len (omega arith) closed

-- a string that is read is one
pub string_sound : (bytes : List ℕ) → slice_index bytes 0 ≡ 34 → Sound bytes (string bytes)
unfolding string
string_sound [] quote = absurd (omega (arith, quote))
string_sound (b ∷ bytes) quote = by_body (body 34 bytes) refl
  where
    by_body : (r : Body) → body 34 bytes ≡ r → Sound (b ∷ bytes) (string_piece r)
    by_body (Closed len) closed =
        let q = quoted 34 bytes len closed in
        string_token refl (record {
          items = q.items;
          spelling = ap (λ n. take n (b ∷ bytes)) (let e : 1 + len ≡ suc len = omega arith in e) ∙ ap (λ x. x ∷ take len bytes) quote ∙ ap (λ t. 34 ∷ t) q.spelling;
          each = All-from_recursion (IsItem 34) q.items q.each;
        })
    by_body Newline closed = tt
    by_body (BadEscape at) closed = tt
    by_body Open closed = tt

-- a rune that is read is one
first_of_items : (quote : ℕ) (items : List (List ℕ)) → quote ≢ 92 → AllByRecursion (IsItem quote) items → 1 ≤ length (concat items)
    → (slice_index (concat items) 0 ≢ quote) × (slice_index (concat items) 0 ≢ 10)
first_of_items quote [] ne each long = absurd (omega arith)
first_of_items quote (item ∷ items) ne each long = by_item item each.0
  where
    by_item : (text : List ℕ) → IsItem quote text → (slice_index (text ++ concat items) 0 ≢ quote) × (slice_index (text ++ concat items) 0 ≢ 10)
    by_item text (byte b plain spelling) =
        subst (λ t. (slice_index (t ++ concat items) 0 ≢ quote) × (slice_index (t ++ concat items) 0 ≢ 10)) (sym spelling) (plain.0, plain.1)
    by_item [] (escaped is) = absurd (let e : 0 ≡ 92 = is.backslash in omega arith)
    by_item (b ∷ text) (escaped is) = let e : b ≡ 92 = is.backslash in ((λ same. ne (sym same ∙ e)), (λ same. omega (arith, same, e)))

rune_body : (items : List (List ℕ)) → AllByRecursion (IsItem 39) items → is_some (rune_code (concat items)) ≡ true → IsRuneBody (concat items)
unfolding rune_code
rune_body items each some_ = ⊎_elim
    (λ backslash. by_escape (escape 39 text) refl (eqb-true (slice_index text 0) 92 backslash) (sym (ap is_some (cond-true _ _ _ backslash)) ∙ some_))
    (λ other. by_char (front_char text) refl (eqb-false (slice_index text 0) 92 other) (sym (ap is_some (cond-false _ _ _ other)) ∙ some_))
    (cases_Bool (slice_index text 0 == 92))
  where
    text : List ℕ
    text = concat items

    by_escape : (o : Option Escape) → escape 39 text ≡ o → slice_index text 0 ≡ 92
        → is_some (option_and_then (λ (e : Escape). cond (e.len == length text) (Some (code_of e.stands_for)) None) o) ≡ true → IsRuneBody text
    by_escape None reads backslash is = absurd (true≢false (sym is))
    by_escape (Some e) reads backslash is = ⊎_elim
        (λ whole. one_escape (record { found = e; backslash = backslash; reads = reads; whole = eqb-true e.len (length text) whole }))
        (λ other. absurd (true≢false (sym is ∙ ap is_some (cond-false (e.len == length text) (Some (code_of e.stands_for)) None other))))
        (cases_Bool (e.len == length text))

    by_char : (o : Option ℕ) → front_char text ≡ o → slice_index text 0 ≢ 92
        → is_some (option_and_then (λ c. cond (len_utf8 c == length text) (Some c) None) o) ≡ true → IsRuneBody text
    by_char None front ne is = absurd (true≢false (sym is))
    by_char (Some c) front ne is = ⊎_elim
        (λ whole.
        let b = front_char_begins text c front in
        let long : len_utf8 c ≡ length text = eqb-true (len_utf8 c) (length text) whole in
        let first = first_of_items 39 items (λ e. omega (arith, e)) each (omega (arith, long, len_utf8_bounds c)) in
        let others : b.others ≡ [] = nil_from_length b.others (omega (arith, ap length b.spelling, length-append (encode_utf8 c) b.others, length-encode c, long)) in
        char c b.scalar_value (
          (λ e. first.0 (byte_from_char text b.others c b.spelling (omega (arith, e)) ∙ e)),
          (λ e. first.1 (byte_from_char text b.others c b.spelling (omega (arith, e)) ∙ e)),
          (λ e. ne (byte_from_char text b.others c b.spelling (omega (arith, e)) ∙ e)),
        )
        (b.spelling ∙ ap (λ t. encode_utf8 c ++ t) others ∙ append-nil (encode_utf8 c)))
        (λ other. absurd (true≢false (sym is ∙ ap is_some (cond-false (len_utf8 c == length text) (Some c) None other))))
        (cases_Bool (len_utf8 c == length text))

pub rune_sound : (bytes : List ℕ) → slice_index bytes 0 ≡ 39 → Sound bytes (rune bytes)
unfolding rune
rune_sound [] quote = absurd (omega (arith, quote))
rune_sound (b ∷ bytes) quote = by_body (body 39 bytes) refl (body_in 39 bytes)
  where
    by_body : (r : Body) → body 39 bytes ≡ r → IsBodyIn (length bytes) r → Sound (b ∷ bytes) (rune_piece (b ∷ bytes) r)
    by_body (Closed len) closed within =
        let q = quoted 39 bytes len closed in
        let inner = concat q.items in
        let long : length inner ≡ len - 1 = omega (arith, ap length q.spelling, length_push inner 39, length-take-le len bytes within.1) in
        let front : take (len - 1) bytes ≡ inner =
        sym (take-take (len - 1) len bytes (omega arith)) ∙ ap (take (len - 1)) q.spelling ∙ take_at inner (39 ∷ []) (len - 1) long in
        tested (Sound (b ∷ bytes)) (is_some (rune_code (take (len - 1) bytes))) _ _
        (λ one. rune_token refl (record {
          body = inner;
          spelling = ap (λ n. take n (b ∷ bytes)) (let e : 1 + len ≡ suc len = omega arith in e) ∙ ap (λ x. x ∷ take len bytes) quote ∙ ap (λ t. 39 ∷ t) q.spelling;
          one = rune_body q.items q.each (ap (λ t. is_some (rune_code t)) (sym front) ∙ one);
        }))
        (λ _. tt)
    by_body Newline closed within = tt
    by_body (BadEscape at) closed within = tt
    by_body Open closed within = tt

-- a raw string that is read is one
no_back_quote : (bytes : List ℕ) → list_any is_back_quote (take (position_or_len is_back_quote bytes) bytes) ≡ false
no_back_quote [] = refl
no_back_quote (b ∷ bytes) = ⊎_elim
    (λ quote. ap (λ n. list_any is_back_quote (take n (b ∷ bytes))) (ap (λ t. cond (not t) (1 + position_or_len is_back_quote bytes) 0) quote))
    (λ other.
    let n = position_or_len is_back_quote bytes in
    let e : position_or_len is_back_quote (b ∷ bytes) ≡ suc n = ap (λ t. cond (not t) (1 + n) 0) other ∙ (let f : 1 + n ≡ suc n = omega arith in f) in
    ap (λ k. list_any is_back_quote (take k (b ∷ bytes))) e ∙ or_from (b == 96) (list_any is_back_quote (take n bytes)) other (no_back_quote bytes))
    (cases_Bool (b == 96))

pub raw_string_sound : (bytes : List ℕ) → slice_index bytes 0 ≡ 96 → Sound bytes (raw_string bytes)
unfolding raw_string
raw_string_sound [] quote = absurd (omega (arith, quote))
raw_string_sound (b ∷ bytes) quote =
    let n = position_or_len is_back_quote bytes in
    tested (Sound (b ∷ bytes)) (nat_lt (raw_end (b ∷ bytes)) (length (b ∷ bytes))) _ _
    (λ closed.
    let inside : n < length bytes = omega (arith, ltb-true (raw_end (b ∷ bytes)) (length (b ∷ bytes)) closed) in
    let last : get_or bytes n 0 ≡ 96 = eqb-true (get_or bytes n 0) 96 (passes_at_first is_back_quote bytes 0 inside) in
    raw_token refl (record {
      body = take n bytes;
      spelling = ap (λ k. take k (b ∷ bytes)) (let e : raw_end (b ∷ bytes) + 1 ≡ suc (n + 1) = omega arith in e) ∙ ap (λ x. x ∷ take (n + 1) bytes) quote
          ∙ ap (λ t. 96 ∷ t) (take_more bytes n 0 inside ∙ ap (λ x. take n bytes ++ x ∷ []) last);
      no_quote = no_back_quote bytes;
    }))
    (λ _. tt)
