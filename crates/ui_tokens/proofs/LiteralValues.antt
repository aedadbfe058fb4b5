-- The values of runes and strings, item by item.
use Rattle.std.proofs.Common.{◌≡◌, ◌≢◌, ℕ, suc, ◌+◌, ◌-◌, ◌≤◌, true, cond, List, [], ◌∷◌, ◌++◌, length, take, drop, get_or, refl, sym, ap, ◌∙◌, subst, arith, ⊎_elim}
use Rattle.std.specs.Prelude.{Some, None, ◌==◌, slice_index, option_and_then, unwrap_or, encode_utf8, pos}
use Rattle.std.specs.List.{concat, AllByRecursion}
use lib.Utf8.{scalar}
use Rattle.std.specs.Char.{len_utf8}
use Rattle.std.proofs.lemmas.Bool.{cases_lt, eq-eqb, ne_eqb, cond-true, cond-false}
use Rattle.std.proofs.lemmas.List.{take_at, drop_at, length_push, append-nil}
use Rattle.std.proofs.lemmas.List.Elements.{All-from_recursion, recursion_from_All}
use Rattle.std.proofs.lemmas.Str.{length-encode, len_utf8_bounds, inside_one}
use Rattle.ui_scan.specs.Escape.{code_of, bytes_of}
use Rattle.ui_scan.specs.Language.{IsPlain, IsEscape, IsItem, IsRuneBody, IsRune}
use Rattle.ui_scan.specs.Language.IsItem.{byte as a_byte, escaped as an_escape}
use Rattle.ui_scan.specs.Language.IsRuneBody.{char as a_char, escaped as one_escape}
use Rattle.ui_scan.specs.Letters.{front_char}
use Rattle.ui_scan.specs.Literal.{rune_code}
use Rattle.ui_scan.specs.Value.{inside, unescaped, raw_bytes, string_value, value_in}
use Rattle.ui_scan.specs.declared.escape.Escape.{Escape}
use Rattle.ui_scan.specs.declared.kind.TokenKind.TheVariants.{Rune}
use Rattle.ui_base.specs.declared.value.Value.TheVariants as value
use Rattle.ui_scan.proofs.LetterLaws.{front_char-encode}
use Rattle.ui_scan.proofs.ValueLaws.{one_byte, one_escape as past_escape}
use Rattle.ui_tokens.specs.Values.{StandsFor, StandEach, IsRuneOf, StringsByItems, RawStringsByBodies, RunesByItems}
use Rattle.ui_tokens.specs.Values.StandsFor.{byte, escaped}
use Rattle.ui_tokens.proofs.Bodies.{escape_before}
use Rattle.ui_tokens.specs.Values.IsRuneOf.{char, escaped as escaped_rune}

-- ---- strings

unescaped_byte : (b : ℕ) (rest : List ℕ) → b ≢ 92 → unescaped (b ∷ rest) ≡ b ∷ unescaped rest
unescaped_byte b rest ne = sym (one_byte (b ∷ rest) [] 0 (omega arith) refl ne)

unescaped_escape : (item rest : List ℕ) → (is : IsEscape 34 item) → unescaped (item ++ rest) ≡ bytes_of is.found.stands_for ++ unescaped rest
unescaped_escape [] rest is = absurd (let e : 0 ≡ 92 = is.backslash in omega arith)
unescaped_escape (b ∷ item) rest is =
    let all_ = b ∷ (item ++ rest) in
    let behind : drop (0 + is.found.len) all_ ≡ rest =
    ap (λ n. drop n all_) (let e : 0 + is.found.len ≡ length (b ∷ item) = omega (arith, is.whole) in e) ∙ drop_at (b ∷ item) rest (length (b ∷ item)) refl in
    sym (past_escape all_ [] 0 (omega arith) refl is.found is.backslash (escape_before 34 (b ∷ item) rest is)) ∙ ap (λ t. bytes_of is.found.stands_for ++ unescaped t) behind

unescaped_item : (item part rest : List ℕ) → StandsFor item part → unescaped (item ++ rest) ≡ part ++ unescaped rest
unescaped_item item part rest (byte b plain spelling is) =
    ap (λ t. unescaped (t ++ rest)) spelling ∙ unescaped_byte b rest plain.2 ∙ ap (λ t. t ++ unescaped rest) (sym is)
unescaped_item item part rest (escaped e is) = unescaped_escape item rest e ∙ ap (λ t. t ++ unescaped rest) (sym is)

nothing_unescaped : unescaped [] ≡ []
unfolding unescaped
nothing_unescaped = refl

unescaped_items : (items parts : List (List ℕ)) → StandEach items parts → unescaped (concat items) ≡ concat parts
unescaped_items [] [] each = nothing_unescaped
unescaped_items [] (part ∷ parts) each = absurd each
unescaped_items (item ∷ items) [] each = absurd each
unescaped_items (item ∷ items) (part ∷ parts) each = unescaped_item item part (concat items) each.0 ∙ ap (λ t. part ++ t) (unescaped_items items parts each.1)

-- what stands between two quotes
pub inside_is : (quote : ℕ) (body : List ℕ) → inside (quote ∷ (body ++ quote ∷ [])) ≡ body
inside_is quote body =
    ap (λ n. take n (body ++ quote ∷ [])) (let e : suc (length (body ++ quote ∷ [])) - 2 ≡ length body = omega (arith, length_push body quote) in e)
    ∙ take_at body (quote ∷ []) (length body) refl

string_is : (body : List ℕ) → string_value (34 ∷ (body ++ 34 ∷ [])) ≡ unescaped body
string_is body = ap unescaped (inside_is 34 body)

-- items, each of which stands for something
record Parts (items : List (List ℕ)) : Type 0 where
  parts : List (List ℕ)
  each : StandEach items parts

part_of : (item : List ℕ) → IsItem 34 item → (part : List ℕ) × StandsFor item part
part_of item (a_byte b plain spelling) = (b ∷ [], byte b plain spelling refl)
part_of item (an_escape is) = (bytes_of is.found.stands_for, escaped is refl)

parts_of : (items : List (List ℕ)) → AllByRecursion (IsItem 34) items → Parts items
parts_of [] each = record { parts = []; each = tt }
parts_of (item ∷ items) each =
    let first = part_of item each.0 in
    let others = parts_of items each.1 in
    record { parts = first.0 ∷ others.parts; each = (first.1, others.each) }

item_of : (item part : List ℕ) → StandsFor item part → IsItem 34 item
item_of item part (byte b plain spelling is) = a_byte b plain spelling
item_of item part (escaped e is) = an_escape e

items_of : (items parts : List (List ℕ)) → StandEach items parts → AllByRecursion (IsItem 34) items
items_of [] parts each = tt
items_of (item ∷ items) [] each = absurd each
items_of (item ∷ items) (part ∷ parts) each = (item_of item part each.0, items_of items parts each.1)

string_value_is : (text : List ℕ) (items parts : List (List ℕ)) → text ≡ 34 ∷ (concat items ++ 34 ∷ []) → StandEach items parts → string_value text ≡ concat parts
string_value_is text items parts spelling each = ap string_value spelling ∙ string_is (concat items) ∙ unescaped_items items parts each

text_of : (x y : List ℕ) → value.Str x ≡ value.Str y → x ≡ y
text_of x y same = cc

pub strings_by_items : StringsByItems
strings_by_items text bytes = (
  (λ s. (
    record { items = s.items; spelling = s.spelling; each = All-from_recursion (IsItem 34) s.items (items_of s.items s.parts s.each) },
    ap value.Str (string_value_is text s.items s.parts s.spelling s.each ∙ sym s.value),
  )),
  (λ h.
      let p = parts_of h.0.items (recursion_from_All (IsItem 34) h.0.items h.0.each) in
      record {
        items = h.0.items;
        parts = p.parts;
        spelling = h.0.spelling;
        each = p.each;
        value = sym (text_of (string_value text) bytes h.1) ∙ string_value_is text h.0.items p.parts h.0.spelling p.each;
      }),
)

-- ---- raw strings

raw_is : (text body : List ℕ) → text ≡ 96 ∷ (body ++ 96 ∷ []) → string_value text ≡ raw_bytes body
raw_is text body spelling = ap string_value spelling ∙ ap raw_bytes (inside_is 96 body)

pub raw_strings_by_bodies : RawStringsByBodies
raw_strings_by_bodies text bytes = (
  (λ s. (record { body = s.body; spelling = s.spelling; no_quote = s.no_quote }, ap value.Str (raw_is text s.body s.spelling ∙ sym s.value))),
  (λ h. record {
    body = h.0.body;
    spelling = h.0.spelling;
    no_quote = h.0.no_quote;
    value = sym (text_of (string_value text) bytes h.1) ∙ raw_is text h.0.body h.0.spelling;
  }),
)

-- ---- runes

-- the first byte of a character that stands for itself is no backslash
first_byte : (c : ℕ) → IsPlain 39 c → slice_index (encode_utf8 c) 0 ≢ 92
first_byte c plain =
    let bytes = encode_utf8 c in
    ⊎_elim
    (λ ascii. subst (λ b. b ≢ 92) (inside_one c [] bytes 0 (sym (append-nil bytes)) (omega (arith, length-encode c, len_utf8_bounds c)) ascii) plain.2)
    (λ (high : 128 ≤ get_or bytes 0 0). λ e. omega (arith, e, high))
    (cases_lt (get_or bytes 0 0) 128)

code_of_char : (c : ℕ) → scalar c ≡ true → IsPlain 39 c → rune_code (encode_utf8 c) ≡ Some c
unfolding rune_code
code_of_char c value plain =
    let bytes = encode_utf8 c in
    let front : front_char bytes ≡ Some c = ap front_char (sym (append-nil bytes)) ∙ front_char-encode c [] value in
    cond-false (slice_index bytes 0 == 92) _ _ (ne_eqb (slice_index bytes 0) 92 (first_byte c plain))
    ∙ ap (option_and_then (λ d. cond (len_utf8 d == length bytes) (Some d) None)) front
    ∙ cond-true (len_utf8 c == length bytes) (Some c) None (eq-eqb (len_utf8 c) (length bytes) (sym (length-encode c)))

code_of_escape : (body : List ℕ) → (is : IsEscape 39 body) → rune_code body ≡ Some (code_of is.found.stands_for)
unfolding rune_code
code_of_escape body is =
    cond-true _ _ _ (eq-eqb (slice_index body 0) 92 is.backslash)
    ∙ ap (option_and_then (λ (e : Escape). cond (e.len == length body) (Some (code_of e.stands_for)) None)) is.reads
    ∙ cond-true (is.found.len == length body) _ _ (eq-eqb is.found.len (length body) is.whole)

-- the number of what a rune holds
pub rune_body_code : (body : List ℕ) → IsRuneBody body → (code : ℕ) × (rune_code body ≡ Some code)
rune_body_code body (a_char c valid plain is) = (c, ap rune_code is ∙ code_of_char c valid plain)
rune_body_code body (one_escape is) = (code_of is.found.stands_for, code_of_escape body is)

rune_value : (text body : List ℕ) (code : ℕ) → text ≡ 39 ∷ (body ++ 39 ∷ []) → rune_code body ≡ Some code → value_in Rune text ≡ value.Whole (pos code)
rune_value text body code spelling is =
    ap (λ o. value.Whole (pos (unwrap_or o 0))) (ap (λ t. rune_code (inside t)) spelling ∙ ap rune_code (inside_is 39 body) ∙ is)

number_of : (x y : ℕ) → value.Whole (pos x) ≡ value.Whole (pos y) → x ≡ y
number_of x y same = cc

rune_is : (text : List ℕ) (code : ℕ) → IsRuneOf text code → IsRune text × (value_in Rune text ≡ value.Whole (pos code))
rune_is text code (char c valid plain spelling is) = (
  record { body = encode_utf8 c; spelling = spelling; one = a_char c valid plain refl },
  rune_value text (encode_utf8 c) code spelling (code_of_char c valid plain ∙ ap Some (sym is)),
)
rune_is text code (escaped_rune body spelling e is) =
    (record { body = body; spelling = spelling; one = one_escape e }, rune_value text body code spelling (code_of_escape body e ∙ ap Some (sym is)))

rune_by_body : (text body : List ℕ) (code : ℕ) → text ≡ 39 ∷ (body ++ 39 ∷ []) → IsRuneBody body → value_in Rune text ≡ value.Whole (pos code) → IsRuneOf text code
rune_by_body text body code spelling (a_char c valid plain is) same =
    char c valid plain (spelling ∙ ap (λ t. 39 ∷ (t ++ 39 ∷ [])) is)
    (number_of code c (sym same ∙ rune_value text body c spelling (ap rune_code is ∙ code_of_char c valid plain)))
rune_by_body text body code spelling (one_escape e) same =
    escaped_rune body spelling e (number_of code _ (sym same ∙ rune_value text body _ spelling (code_of_escape body e)))

pub runes_by_items : RunesByItems
runes_by_items text code = (rune_is text code, (λ h. rune_by_body text h.0.body code h.0.spelling h.0.one h.1))
