-- The character at the front, and the letters and digits there.
use Rattle.std.proofs.Common.{◌≡◌, ℕ, zero, suc, ◌+◌, ◌-◌, ◌<◌, ◌≤◌, Bool, true, false, cond, List, [], ◌∷◌, ◌++◌, length, take, drop, refl, sym, ap, ◌∙◌, subst, append_assoc, arith, ⊎_elim}
use Rattle.std.specs.Prelude.{Some, None, slice_get, encode_utf8, encode_utf8_all}
use Rattle.std.specs.Str.{IsUtf8, is_utf8, chars}
use Rattle.std.specs.Str.Lossy.{utf8_valid_len, valid_len_up_to}
use Rattle.std.specs.Char.{IsScalar, len_utf8}
use lib.Utf8.{scalar, scalars}
use Rattle.std.proofs.lemmas.Str.{IsUtf8-nil, IsUtf8-encode, IsUtf8-from_is_utf8, is_utf8-from_IsUtf8, encodes-chars, scalars-chars, chars_past_char, length-encode, len_utf8_bounds, chars-nil}
use Rattle.std.proofs.lemmas.List.{take-append-drop, length-append, length-take, length-drop, nil_from_length, drop-drop, drop_at}
use Rattle.std.proofs.lemmas.Bool.{cases_Bool, cases_lt, true≢false, and_parts}
use Rattle.std.proofs.Math.Seq.{take-append-add, take-append_seam}
use Rattle.ui_base.specs.Names.{continues}
use Rattle.ui_scan.specs.Letters.{front_char, passes, width, name_len, name_len_from}

-- the longest front that is UTF-8 is UTF-8
front_is_utf8 : (bytes : List ℕ) (n : ℕ) → IsUtf8 (take (valid_len_up_to bytes n) bytes)
front_is_utf8 bytes zero = IsUtf8-nil
front_is_utf8 bytes (suc n) = ⊎_elim
    (λ valid. subst (λ b. IsUtf8 (take (cond b (suc n) (valid_len_up_to bytes n)) bytes)) (sym valid) (IsUtf8-from_is_utf8 _ valid))
    (λ other. subst (λ b. IsUtf8 (take (cond b (suc n) (valid_len_up_to bytes n)) bytes)) (sym other) (front_is_utf8 bytes n))
    (cases_Bool (is_utf8 (take (suc n) bytes)))

-- and no longer one is
front_is_longest : (bytes : List ℕ) (n m : ℕ) → m ≤ n → IsUtf8 (take m bytes) → m ≤ valid_len_up_to bytes n
front_is_longest bytes zero m le utf8 = omega arith
front_is_longest bytes (suc n) m le utf8 = ⊎_elim
    (λ valid. subst (λ b. m ≤ cond b (suc n) (valid_len_up_to bytes n)) (sym valid) le)
    (λ other. subst (λ b. m ≤ cond b (suc n) (valid_len_up_to bytes n)) (sym other)
    (⊎_elim
    (λ (below : m < suc n). front_is_longest bytes n m (omega arith) utf8)
    (λ (above : suc n ≤ m). let e : m ≡ suc n = omega arith in
    absurd (true≢false (sym (is_utf8-from_IsUtf8 _ (subst (λ k. IsUtf8 (take k bytes)) e utf8)) ∙ other)))
    (cases_lt m (suc n))))
    (cases_Bool (is_utf8 (take (suc n) bytes)))

-- the longest front of some bytes that is UTF-8
pub valid_is_utf8 : (bytes : List ℕ) → IsUtf8 (take (utf8_valid_len bytes) bytes)
unfolding utf8_valid_len
valid_is_utf8 bytes = front_is_utf8 bytes (length bytes)

valid_is_longest : (bytes : List ℕ) (m : ℕ) → m ≤ length bytes → IsUtf8 (take m bytes) → m ≤ utf8_valid_len bytes
unfolding utf8_valid_len
valid_is_longest bytes m le utf8 = front_is_longest bytes (length bytes) m le utf8

-- the first of a list and the others
headed : (cs : List ℕ) (c : ℕ) → slice_get cs 0 ≡ Some c → (others : List ℕ) × (cs ≡ c ∷ others)
headed [] c found = absurd (cc)
headed (x ∷ xs) c found = (xs, ap (λ y. y ∷ xs) (let e : x ≡ c = cc in e))

-- the character at the front is there
pub record Begins (bytes : List ℕ) (c : ℕ) : Type 0 where
  pub others : List ℕ
  pub spelling : bytes ≡ encode_utf8 c ++ others
  pub scalar_value : IsScalar c

first_of_text : (text others : List ℕ) (c : ℕ) → IsUtf8 text → slice_get (chars text) 0 ≡ Some c → Begins (text ++ others) c
first_of_text text others c utf8 found =
    let cs = headed (chars text) c found in
    let spelled : encode_utf8 c ++ encode_utf8_all cs.0 ≡ text = sym (ap encode_utf8_all cs.1) ∙ encodes-chars text utf8 in
    let values : scalars (c ∷ cs.0) ≡ true = sym (ap scalars cs.1) ∙ scalars-chars text utf8 in
    record {
      others = encode_utf8_all cs.0 ++ others;
      spelling = ap (λ t. t ++ others) (sym spelled) ∙ append_assoc (encode_utf8 c) (encode_utf8_all cs.0) others;
      scalar_value = (and_parts (scalar c) (scalars cs.0) values).0;
    }

pub front_char_begins : (bytes : List ℕ) (c : ℕ) → front_char bytes ≡ Some c → Begins bytes c
unfolding front_char
front_char_begins bytes c found =
    let front = take 4 bytes in
    let n = utf8_valid_len front in
    let whole : take n front ++ (drop n front ++ drop 4 bytes) ≡ bytes =
    sym (append_assoc (take n front) (drop n front) (drop 4 bytes)) ∙ ap (λ t. t ++ drop 4 bytes) (take-append-drop n front) ∙ take-append-drop 4 bytes in
    subst (λ t. Begins t c) whole (first_of_text (take n front) (drop n front ++ drop 4 bytes) c (valid_is_utf8 front) found)

-- a character at the front of a longer text is its first
text_begins : (c : ℕ) (others : List ℕ) (n : ℕ) → IsScalar c → length (encode_utf8 c) ≤ n → IsUtf8 (take n (encode_utf8 c ++ others))
    → slice_get (chars (take n (encode_utf8 c ++ others))) 0 ≡ Some c
text_begins c others n scalar_value long utf8 =
    let w = length (encode_utf8 c) in
    let e : n ≡ w + (n - w) = omega arith in
    let cut : take n (encode_utf8 c ++ others) ≡ encode_utf8 c ++ take (n - w) others =
    ap (λ k. take k (encode_utf8 c ++ others)) e ∙ take-append-add (encode_utf8 c) others (n - w) in
    ap (λ t. slice_get t 0) (chars_past_char (take n (encode_utf8 c ++ others)) (take (n - w) others) c utf8 cut)

-- a character that is there is at the front
pub front_char-encode : (c : ℕ) (others : List ℕ) → IsScalar c → front_char (encode_utf8 c ++ others) ≡ Some c
unfolding front_char
front_char-encode c others scalar_value =
    let w = length (encode_utf8 c) in
    let short : w ≤ 4 = omega (arith, length-encode c, len_utf8_bounds c) in
    let front : take 4 (encode_utf8 c ++ others) ≡ encode_utf8 c ++ take (4 - w) others =
    let e : 4 ≡ w + (4 - w) = omega arith in
    ap (λ n. take n (encode_utf8 c ++ others)) e ∙ take-append-add (encode_utf8 c) others (4 - w) in
    let long : w ≤ utf8_valid_len (encode_utf8 c ++ take (4 - w) others) =
    valid_is_longest (encode_utf8 c ++ take (4 - w) others) w
    (omega (arith, length-append (encode_utf8 c) (take (4 - w) others)))
    (subst IsUtf8 (sym (take-append_seam (encode_utf8 c) (take (4 - w) others))) (IsUtf8-encode c scalar_value)) in
    ap (λ t. slice_get (chars (take (utf8_valid_len t) t)) 0) front
    ∙ text_begins c (take (4 - w) others) (utf8_valid_len (encode_utf8 c ++ take (4 - w) others)) scalar_value long
    (valid_is_utf8 (encode_utf8 c ++ take (4 - w) others))

nothing : slice_get (chars (take (utf8_valid_len []) [])) 0 ≡ None
unfolding utf8_valid_len
nothing = ap (λ t. slice_get t 0) chars-nil

-- no character is at the front of nothing
pub front_char-none : (bytes : List ℕ) → length (take 4 bytes) ≡ 0 → front_char bytes ≡ None
unfolding front_char
front_char-none bytes empty = ap (λ t. slice_get (chars (take (utf8_valid_len t) t)) 0) (nil_from_length (take 4 bytes) empty) ∙ nothing

-- its bytes are within
pub front_char_within : (bytes : List ℕ) (c : ℕ) → front_char bytes ≡ Some c → len_utf8 c ≤ length bytes
front_char_within bytes c found =
    let b = front_char_begins bytes c found in
    omega (arith, ap length b.spelling, length-append (encode_utf8 c) b.others, length-encode c)

pub drop_front_char : (bytes : List ℕ) (c : ℕ) → (b : Begins bytes c) → drop (len_utf8 c) bytes ≡ b.others
drop_front_char bytes c b = ap (drop (len_utf8 c)) b.spelling ∙ drop_at (encode_utf8 c) b.others (len_utf8 c) (length-encode c)

-- what is passed over is counted
name_len-passed : (k : ℕ) (bytes : List ℕ) → k ≤ length bytes → name_len_from k bytes ≡ k + name_len_from 0 (drop k bytes)
name_len-passed zero bytes le = omega arith
name_len-passed (suc k) [] le = absurd (omega arith)
name_len-passed (suc k) (b ∷ bytes) le =
    let e = name_len-passed k bytes (omega arith) in omega (arith, e)

pub name_len_more : (bytes : List ℕ) (c : ℕ) → front_char bytes ≡ Some c → continues c ≡ true → name_len bytes ≡ len_utf8 c + name_len (drop (len_utf8 c) bytes)
unfolding name_len
name_len_more [] c found more = absurd (omega (arith, front_char_within [] c found, len_utf8_bounds c))
name_len_more (b ∷ bytes) c found more =
    let step : name_len_from 0 (b ∷ bytes) ≡ suc (name_len_from (len_utf8 c - 1) bytes) =
    ap (λ o. cond (passes continues o) (suc (name_len_from (width o - 1) bytes)) 0) found
    ∙ ap (λ t. cond t (suc (name_len_from (len_utf8 c - 1) bytes)) 0) more in
    let within = front_char_within (b ∷ bytes) c found in
    let passed = name_len-passed (len_utf8 c - 1) bytes (omega arith) in
    let long : 1 ≤ len_utf8 c = (len_utf8_bounds c).0 in
    let e : len_utf8 c ≡ suc (len_utf8 c - 1) = omega arith in
    let rest : drop (len_utf8 c - 1) bytes ≡ drop (len_utf8 c) (b ∷ bytes) = ap (λ n. drop n (b ∷ bytes)) (sym e) in
    let counted = ap (name_len_from 0) rest in
    omega (arith, step, passed, counted)

pub name_len_done : (bytes : List ℕ) → passes continues (front_char bytes) ≡ false → name_len bytes ≡ 0
unfolding name_len
name_len_done [] done = refl
name_len_done (b ∷ bytes) done = ap (λ t. cond t (suc (name_len_from (width (front_char (b ∷ bytes)) - 1) bytes)) 0) done

-- one more character, of a name and of what is behind it
pub step_more : (bytes : List ℕ) (n c : ℕ) → front_char (drop n bytes) ≡ Some c → continues c ≡ true
    → (n + len_utf8 c) + name_len (drop (n + len_utf8 c) bytes) ≡ n + name_len (drop n bytes)
step_more bytes n c found more =
    let e = name_len_more (drop n bytes) c found more in
    let d = ap name_len (drop-drop (len_utf8 c) n bytes) in
    omega (arith, e, d)

pub ruleset names = (front_char_within, length-drop, name_len_done, step_more, len_utf8_bounds)
