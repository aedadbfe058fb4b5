-- What stands behind a quote: characters and escapes, up to the closing quote, a line's end, a bad escape or the end.
use Rattle.std.proofs.Common.{◌≡◌, ◌≢◌, ℕ, zero, suc, ◌+◌, ◌-◌, ◌≤◌, List, [], ◌∷◌, ◌++◌, length, take, drop, refl, sym, ap, ◌∙◌, subst, arith, ⊎_elim, append_assoc, add_assoc}
use Rattle.std.specs.Prelude.{Option, Some, None, ◌==◌, option_map, slice_index}
use Rattle.std.specs.List.{concat, AllByRecursion}
use Rattle.std.proofs.lemmas.Bool.{cases_eq, eqb-true, eqb-false, eq-eqb, ne_eqb, cond-true, cond-false}
use Rattle.std.proofs.lemmas.List.{take_at, take_all, take-take, take-append-drop, drop_at, length-take-le, length-append, length-drop, get_or-take}
use Rattle.std.proofs.lemmas.List.Elements.{All-from_recursion}
use Rattle.ui_scan.specs.Escape.{escape}
use Rattle.ui_scan.specs.Language.{IsEscape, IsItem}
use Rattle.ui_scan.specs.Language.IsItem.{byte, escaped}
use Rattle.ui_scan.specs.Literal.{behind, item_len, body}
use Rattle.ui_scan.specs.declared.escape.Escape.{Escape}
use Rattle.ui_scan.specs.declared.literal.Body.{Body}
use Rattle.ui_scan.specs.declared.literal.Body.TheVariants.{Closed, Newline, BadEscape, Open}
use Rattle.ui_scan.proofs.Choices.{chosen, at_some}
use Rattle.ui_scan.proofs.EscapeLanguage.{escape_alike}
use Rattle.ui_scan.proofs.EscapeLaws.{FitsIn, escape_fits}
use Rattle.ui_scan.proofs.LiteralLaws.{behind-zero, IsItemLen, item_len_fits, body_closed, body_newline, body_bad, body_more, body_open}
use Rattle.ui_tokens.specs.Faults.{Opens, IsBadEscape}

-- ---- escapes

-- an escape, with other bytes behind it
pub escape_before : (quote : ℕ) (item rest : List ℕ) → (is : IsEscape quote item) → escape quote (item ++ rest) ≡ Some is.found
escape_before quote item rest is =
    let n = length item in
    escape_alike quote item (item ++ rest) is.found
    (record {
      same = ap (λ k. take k item) is.whole ∙ take_all n item (omega arith) ∙ sym (ap (λ k. take k (item ++ rest)) is.whole ∙ take_at item rest n refl);
      left = omega (arith, is.whole);
      right = omega (arith, is.whole, length-append item rest);
    }) is.reads

-- the bytes of one that is read
escape_is : (quote : ℕ) (bytes : List ℕ) (e : Escape) → slice_index bytes 0 ≡ 92 → escape quote bytes ≡ Some e → IsEscape quote (take e.len bytes)
escape_is quote bytes e backslash reads =
    let fits = at_some (FitsIn bytes) (escape quote bytes) e reads (escape_fits quote bytes) in
    let low : 2 ≤ e.len = fits.long in
    let long : length (take e.len bytes) ≡ e.len = length-take-le e.len bytes fits.within in
    record {
      found = e;
      backslash = get_or-take e.len bytes 0 0 (omega arith) ∙ backslash;
      reads = escape_alike quote bytes (take e.len bytes) e (record {
        same = sym (take-take e.len e.len bytes (omega arith));
        left = fits.within;
        right = omega (arith, long);
      }) reads;
      whole = sym long;
    }

none_mapped : (o : Option Escape) → option_map (λ (e : Escape). e.len) o ≡ None → o ≡ None
none_mapped None is = refl
none_mapped (Some e) is = absurd cc

no_item : (quote b : ℕ) (bytes : List ℕ) → item_len quote (b ∷ bytes) ≡ None → (b ≡ 92) × (escape quote (b ∷ bytes) ≡ None)
unfolding item_len
no_item quote b bytes is = ⊎_elim
    (λ both. (eqb-true b 92 both.0, none_mapped (escape quote (b ∷ bytes)) both.1))
    (λ both. absurd (let e : Some 1 ≡ None = both.1 in cc))
    (chosen (b == 92) (option_map (λ (e : Escape). e.len) (escape quote (b ∷ bytes))) (Some 1) None is)

bad_escape_is : (quote b : ℕ) (bytes : List ℕ) → item_len quote (b ∷ bytes) ≡ None → IsBadEscape quote (b ∷ bytes)
bad_escape_is quote b bytes is =
    let none = no_item quote b bytes is in
    record {
      after = bytes;
      backslash = ap (λ x. x ∷ bytes) none.0;
      no_escape = λ text rest e spelling. let same : None ≡ Some e.found = sym none.1 ∙ ap (escape quote) spelling ∙ escape_before quote text rest e in cc;
    }

no_item_len : (quote : ℕ) (after : List ℕ) → ((text rest : List ℕ) → IsEscape quote text → 92 ∷ after ≡ text ++ rest → ⊥) → item_len quote (92 ∷ after) ≡ None
unfolding item_len
no_item_len quote after none = by_escape (escape quote (92 ∷ after)) refl
  where
    by_escape : (o : Option Escape) → escape quote (92 ∷ after) ≡ o → option_map (λ (e : Escape). e.len) (escape quote (92 ∷ after)) ≡ None
    by_escape None is = ap (option_map (λ (e : Escape). e.len)) is
    by_escape (Some e) is = absurd (none (take e.len (92 ∷ after)) (drop e.len (92 ∷ after)) (escape_is quote (92 ∷ after) e refl is) (sym (take-append-drop e.len (92 ∷ after))))

-- ---- items are passed over

behind-behind : (m n : ℕ) (b : Body) → behind m (behind n b) ≡ behind (m + n) b
behind-behind m n (Closed len) = ap Closed (sym (add_assoc m n len))
behind-behind m n Newline = refl
behind-behind m n (BadEscape at) = ap BadEscape (sym (add_assoc m n at))
behind-behind m n Open = refl

byte_len : (quote b : ℕ) (bytes : List ℕ) → b ≢ 92 → item_len quote (b ∷ bytes) ≡ Some 1
unfolding item_len
byte_len quote b bytes ne = cond-false _ _ _ (ne_eqb b 92 ne)

escape_len : (quote b : ℕ) (bytes : List ℕ) (e : Escape) → b ≡ 92 → escape quote (b ∷ bytes) ≡ Some e → item_len quote (b ∷ bytes) ≡ Some e.len
unfolding item_len
escape_len quote b bytes e backslash reads = cond-true _ _ _ (eq-eqb b 92 backslash) ∙ ap (option_map (λ (x : Escape). x.len)) reads

escape_passed : (quote : ℕ) (item rest : List ℕ) → quote ≢ 92 → IsEscape quote item → body quote (item ++ rest) ≡ behind (length item) (body quote rest)
escape_passed quote [] rest ne is = absurd (let e : 0 ≡ 92 = is.backslash in omega arith)
escape_passed quote (b ∷ item) rest ne is =
    let backslash : b ≡ 92 = is.backslash in
    let n = length (b ∷ item) in
    let found : item_len quote (b ∷ (item ++ rest)) ≡ Some n = escape_len quote b (item ++ rest) is.found backslash (escape_before quote (b ∷ item) rest is) ∙ ap Some is.whole in
    body_more quote b n (item ++ rest) (λ e. ne (sym e ∙ backslash)) (λ e. omega (arith, e, backslash)) found
    ∙ ap (λ t. behind n (body quote t)) (drop_at (b ∷ item) rest n refl)

item_passed : (quote : ℕ) (item rest : List ℕ) → quote ≢ 92 → IsItem quote item → body quote (item ++ rest) ≡ behind (length item) (body quote rest)
item_passed quote item rest ne (byte b plain spelling) =
    subst (λ t. body quote (t ++ rest) ≡ behind (length t) (body quote rest)) (sym spelling)
    (body_more quote b 1 rest plain.0 plain.1 (byte_len quote b rest plain.2))
item_passed quote item rest ne (escaped is) = escape_passed quote item rest ne is

pub items_passed : (quote : ℕ) (items : List (List ℕ)) (rest : List ℕ) → quote ≢ 92 → AllByRecursion (IsItem quote) items
    → body quote (concat items ++ rest) ≡ behind (length (concat items)) (body quote rest)
items_passed quote [] rest ne each = sym (behind-zero (body quote rest))
items_passed quote (item ∷ items) rest ne each =
    ap (body quote) (append_assoc item (concat items) rest)
    ∙ item_passed quote item (concat items ++ rest) ne each.0
    ∙ ap (behind (length item)) (items_passed quote items rest ne each.1)
    ∙ behind-behind (length item) (length (concat items)) (body quote rest)
    ∙ ap (λ n. behind n (body quote rest)) (sym (length-append item (concat items)))

pub bad_body : (quote : ℕ) (left : List ℕ) → quote ≢ 92 → IsBadEscape quote left → body quote left ≡ BadEscape 0
bad_body quote left ne is =
    ap (body quote) is.backslash
    ∙ body_bad quote 92 is.after (λ e. ne (sym e)) (λ e. omega (arith, e))
    (no_item_len quote is.after (λ text rest e spelling. is.no_escape text rest e (is.backslash ∙ spelling)))

-- ---- and what stops them

pub record Stops (quote : ℕ) (bytes : List ℕ) (n : ℕ) (left : List ℕ) : Type 0 where
  pub items : List (List ℕ)
  pub each : AllByRecursion (IsItem quote) items
  pub spelling : bytes ≡ concat items ++ left
  pub size : length (concat items) ≡ n

abbrev pub BodyIs : ℕ → List ℕ → Body → Type 0
BodyIs quote bytes (Closed len) = (left : List ℕ) × (1 ≤ len) × Stops quote bytes (len - 1) (quote ∷ left)
BodyIs quote bytes Newline = (left : List ℕ) × (n : ℕ) × Stops quote bytes n (10 ∷ left)
BodyIs quote bytes (BadEscape at) = (left : List ℕ) × Stops quote bytes at left × IsBadEscape quote left
BodyIs quote bytes Open = (n : ℕ) × Stops quote bytes n []

at_once : (quote : ℕ) (bytes left : List ℕ) → bytes ≡ left → Stops quote bytes 0 left
at_once quote bytes left same = record { items = []; each = tt; spelling = same; size = refl }

item_is : (quote b : ℕ) (bytes : List ℕ) (k : ℕ) → b ≢ quote → b ≢ 10 → item_len quote (b ∷ bytes) ≡ Some k → IsItem quote (take k (b ∷ bytes))
unfolding item_len
item_is quote b bytes k ne ne' is = ⊎_elim
    (λ both. by_escape (escape quote (b ∷ bytes)) refl (eqb-true b 92 both.0) both.1)
    (λ both.
    let one : k ≡ 1 = (let e : Some 1 ≡ Some k = both.1 in cc) in
    byte b (ne, ne', eqb-false b 92 both.0) (ap (λ n. take n (b ∷ bytes)) one))
    (chosen (b == 92) (option_map (λ (e : Escape). e.len) (escape quote (b ∷ bytes))) (Some 1) (Some k) is)
  where
    by_escape : (o : Option Escape) → escape quote (b ∷ bytes) ≡ o → b ≡ 92 → option_map (λ (e : Escape). e.len) o ≡ Some k → IsItem quote (take k (b ∷ bytes))
    by_escape None reads backslash len = absurd (cc)
    by_escape (Some e) reads backslash len =
        let same : e.len ≡ k = cc in
        escaped (subst (λ n. IsEscape quote (take n (b ∷ bytes))) same (escape_is quote (b ∷ bytes) e backslash reads))

-- one item more before
module _ (quote : ℕ) (bytes : List ℕ) (k : ℕ) (within : k ≤ length bytes) (item : IsItem quote (take k bytes)) where
  stops_later : (n m : ℕ) (left : List ℕ) → k + n ≡ m → Stops quote (drop k bytes) n left → Stops quote bytes m left
  stops_later n m left sum s = record {
    items = take k bytes ∷ s.items;
    each = (item, s.each);
    spelling = sym (take-append-drop k bytes) ∙ ap (λ t. take k bytes ++ t) s.spelling ∙ sym (append_assoc (take k bytes) (concat s.items) left);
    size = length-append (take k bytes) (concat s.items) ∙ (let e = length-take-le k bytes within in let f = s.size in omega arith);
  }

  body_later : (r : Body) → BodyIs quote (drop k bytes) r → BodyIs quote bytes (behind k r)
  body_later (Closed len) is = (is.0, omega (arith, is.1), stops_later (len - 1) (k + len - 1) (quote ∷ is.0) (omega (arith, is.1)) is.2)
  body_later Newline is = (is.0, k + is.1, stops_later is.1 (k + is.1) (10 ∷ is.0) refl is.2)
  body_later (BadEscape at) is = (is.0, stops_later at (k + at) is.0 refl is.1, is.2)
  body_later Open is = (k + is.0, stops_later is.0 (k + is.0) [] refl is.1)

body_step : (quote b : ℕ) (bytes : List ℕ) → ((k : ℕ) → 1 ≤ k → BodyIs quote (drop k (b ∷ bytes)) (body quote (drop k (b ∷ bytes)))) → BodyIs quote (b ∷ bytes) (body quote (b ∷ bytes))
body_step quote b bytes next = ⊎_elim
    (λ is. subst (BodyIs quote (b ∷ bytes)) (sym (body_closed quote b bytes is)) (bytes, omega arith, at_once quote (b ∷ bytes) (quote ∷ bytes) (ap (λ x. x ∷ bytes) is)))
    (λ ne. ⊎_elim
    (λ line. subst (BodyIs quote (b ∷ bytes)) (sym (body_newline quote b bytes ne line)) (bytes, 0, at_once quote (b ∷ bytes) (10 ∷ bytes) (ap (λ x. x ∷ bytes) line)))
    (λ ne'. by_item ne ne' (item_len quote (b ∷ bytes)) refl)
    (cases_eq b 10))
    (cases_eq b quote)
  where
    by_item : b ≢ quote → b ≢ 10 → (o : Option ℕ) → item_len quote (b ∷ bytes) ≡ o → BodyIs quote (b ∷ bytes) (body quote (b ∷ bytes))
    by_item ne ne' None is =
        subst (BodyIs quote (b ∷ bytes)) (sym (body_bad quote b bytes ne ne' is)) (b ∷ bytes, at_once quote (b ∷ bytes) (b ∷ bytes) refl, bad_escape_is quote b bytes is)
    by_item ne ne' (Some k) is =
        let fits = at_some (IsItemLen (b ∷ bytes)) (item_len quote (b ∷ bytes)) k is (item_len_fits quote (b ∷ bytes) (omega arith)) in
        subst (BodyIs quote (b ∷ bytes)) (sym (body_more quote b k bytes ne ne' is))
        (body_later quote (b ∷ bytes) k fits.within (item_is quote b bytes k ne ne' is) (body quote (drop k (b ∷ bytes))) (next k fits.some_bytes))

body_from : (n quote : ℕ) (bytes : List ℕ) → length bytes ≤ n → BodyIs quote bytes (body quote bytes)
body_from n quote [] short = subst (BodyIs quote []) (sym (body_open quote [] refl)) (0, at_once quote [] [] refl)
body_from zero quote (b ∷ bytes) short = absurd (let x : ⊥ = omega arith in x)
body_from (suc n) quote (b ∷ bytes) short =
    body_step quote b bytes (λ k low. body_from n quote (drop k (b ∷ bytes)) (omega (arith, length-drop k (b ∷ bytes))))

pub body_is : (quote : ℕ) (bytes : List ℕ) → BodyIs quote bytes (body quote bytes)
body_is quote bytes = body_from (length bytes) quote bytes (omega arith)

-- behind a quote
abbrev pub opens : (quote b n : ℕ) (bytes left : List ℕ) → b ≡ quote → Stops quote bytes n left → Opens quote (b ∷ bytes) left
opens quote b n bytes left is s = record {
  items = s.items;
  each = All-from_recursion (IsItem quote) s.items s.each;
  spelling = ap (λ x. x ∷ bytes) is ∙ ap (λ t. quote ∷ t) s.spelling;
}
