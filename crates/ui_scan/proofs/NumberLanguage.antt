-- Numbers, as they are spelled and as they are read.
use Rattle.std.proofs.Common.{◌≡◌, ℕ, suc, ◌+◌, ◌-◌, ◌<◌, ◌≤◌, Bool, true, false, cond, List, [], ◌∷◌, ◌++◌, length, take, drop, get_or, refl, sym, ap, ◌∙◌, subst, inl, inr, arith, ⊎_elim}
use Rattle.std.specs.Prelude.{◌⊎◌, Option, Some, None, ◌==◌, ◌&&◌, ◌||◌, not, slice_index, nat_lt, nat_le}
use Rattle.std.specs.List.{list_all, prefix_len}
use Rattle.std.proofs.lemmas.Bool.{cases_Bool, cases_lt, and_parts, and_from, or_cases, or_from, or_left, or_right, true≢false, leb-true, le-leb, ltb-true, ltb-false, lt-ltb, eqb-true, eqb-false, ne_eqb, cond-true, cond-false}
use Rattle.std.proofs.lemmas.List.{take_at, take_more, take-append-drop, length-take-le, length_push, get_or_at, get_or_past, append_assoc}
use Rattle.ui_scan.specs.Digits.{digit, is_digit_of, are_digits, goes_on, number_of, greatest, whole}
use Rattle.ui_scan.specs.Language.{marked_base, HasDigits, IsInt, IsRun, IsFaulty}
use Rattle.ui_scan.specs.Language.HasDigits.{marked, octal, decimal}
use Rattle.ui_scan.specs.Language.IsFaulty.{goes_on as continued, no_int, point}
use Rattle.ui_scan.specs.Language.IsToken.{int}
use Rattle.ui_scan.specs.Number.{radix, is_counted, counted_len, number_end, digits_in, begins_fraction, is_numeral, within, whole_number, number}
use Rattle.ui_scan.specs.Piece.{lexeme, is_decimal}
use Rattle.ui_scan.specs.declared.number.Radix.{Radix}
use Rattle.ui_scan.specs.declared.kind.TokenKind.{TokenKind}
use Rattle.ui_scan.specs.declared.kind.TokenKind.TheVariants.{Int}
use Rattle.ui_scan.proofs.Choices.{chosen}
use Rattle.ui_scan.proofs.PieceLaws.{tested, number_end_in}
use Rattle.ui_scan.proofs.Readings.{Outdone, Reads, Sound, HasAtLeast}
use Rattle.ui_scan.proofs.WordLanguage.{lexeme_word}

-- the base by what follows a 0
abbrev radix_marked : Option ℕ → Radix
radix_marked None = record { base = 8; len = 0 }
radix_marked (Some base) = record { base = base; len = 2 }

radix_zero : (bytes : List ℕ) → radix (48 ∷ bytes) ≡ radix_marked (marked_base (slice_index bytes 0))
unfolding radix
radix_zero bytes =
    by_tests (slice_index bytes 0 == 120 || slice_index bytes 0 == 88) (slice_index bytes 0 == 111 || slice_index bytes 0 == 79) (slice_index bytes 0 == 98 || slice_index bytes 0 == 66)
  where
    by_tests : (x y z : Bool)
        → cond x (record { base = 16; len = 2 }) (cond y (record { base = 8; len = 2 }) (cond z (record { base = 2; len = 2 }) (record { base = 8; len = 0 })))
        ≡ radix_marked (cond x (Some 16) (cond y (Some 8) (cond z (Some 2) None)))
    by_tests true y z = refl
    by_tests false true z = refl
    by_tests false false true = refl
    by_tests false false false = refl

radix_other : (b : ℕ) (bytes : List ℕ) → (b == 48) ≡ false → radix (b ∷ bytes) ≡ record { base = 10; len = 0 }
unfolding radix
radix_other b bytes other = cond-false _ _ _ other

-- a mark, and the base that it tells
mark_is : (P : ℕ → ℕ → Type 0) (mark base : ℕ) → marked_base mark ≡ Some base → P 120 16 → P 88 16 → P 111 8 → P 79 8 → P 98 2 → P 66 2 → P mark base
mark_is P mark base is x X o O b B =
    ⊎_elim (λ h. either 120 88 16 h.0 h.1 x X)
    (λ h. ⊎_elim (λ i. either 111 79 8 i.0 i.1 o O)
    (λ i. ⊎_elim (λ j. either 98 66 2 j.0 j.1 b B)
    (λ j. absurd (let e : None ≡ Some base = j.1 in cc))
    (chosen (mark == 98 || mark == 66) (Some 2) None (Some base) i.1))
    (chosen (mark == 111 || mark == 79) (Some 8) (cond (mark == 98 || mark == 66) (Some 2) None) (Some base) h.1))
    (chosen (mark == 120 || mark == 88) (Some 16) _ (Some base) is)
  where
    either : (m n k : ℕ) → (mark == m || mark == n) ≡ true → Some k ≡ Some base → P m k → P n k → P mark base
    either m n k is same p q =
        let e : k ≡ base = cc in
        subst (λ y. P mark y) e
        (⊎_elim (λ l. subst (λ y. P y k) (sym (eqb-true mark m l)) p) (λ r. subst (λ y. P y k) (sym (eqb-true mark n r)) q) (or_cases (mark == m) (mark == n) is))

abbrev IsBase : ℕ → Type 0
IsBase base = (base ≤ 10) ⊎ (base ≡ 16)

mark_base : (mark base : ℕ) → marked_base mark ≡ Some base → IsBase base
mark_base mark base is = mark_is (λ _ b. IsBase b) mark base is (inr refl) (inr refl) (inl (omega arith)) (inl (omega arith)) (inl (omega arith)) (inl (omega arith))

mark_no_digit : (mark base : ℕ) → marked_base mark ≡ Some base → is_counted 8 mark ≡ false
unfolding digit
mark_no_digit mark base is = mark_is (λ m _. is_counted 8 m ≡ false) mark base is refl refl refl refl refl refl

has_base : (base : ℕ) (digits text : List ℕ) → HasDigits base digits text → IsBase base
has_base base digits text (marked mark spelling is) = mark_base mark base is
has_base base digits text (octal after spelling first is) = inl (omega (arith, is))
has_base base digits text (decimal first after spelling begins range is) = inl (omega (arith, is))

-- digits count
digit_counts : (base b : ℕ) → IsBase base → is_digit_of base b ≡ true → is_counted base b ≡ true
digit_counts base b is_base is =
    let low : digit b < base = ltb-true (digit b) base is in
    or_right (b == 95) _ (tested (λ n. is_digit_of n b ≡ true) (base == 16) 16 10
    (λ same. lt-ltb (digit b) 16 (omega (arith, low, eqb-true base 16 same)))
    (λ other. ⊎_elim (λ le. lt-ltb (digit b) 10 (omega (arith, low, le))) (λ same. absurd (eqb-false base 16 other same)) is_base))

digits_count : (base : ℕ) (digits : List ℕ) → IsBase base → are_digits base digits ≡ true → list_all (is_counted base) digits ≡ true
unfolding are_digits
digits_count base [] is_base is = refl
digits_count base (b ∷ digits) is_base is =
    let parts = and_parts (is_digit_of base b || (b == 95 && goes_on digits)) (are_digits base digits) is in
    and_from (is_counted base b) (list_all (is_counted base) digits)
    (⊎_elim (λ of_base. digit_counts base b is_base of_base) (λ blank. or_left (b == 95) _ (and_parts (b == 95) (goes_on digits) blank).0)
    (or_cases (is_digit_of base b) (b == 95 && goes_on digits) parts.0))
    (digits_count base digits is_base parts.1)

int_counted : (text : List ℕ) → (i : IsInt text) → list_all (is_counted i.base) i.digits ≡ true
unfolding is_numeral
int_counted text i =
    digits_count i.base i.digits (has_base i.base i.digits text i.number) (and_parts (not (length i.digits == 0)) (are_digits i.base i.digits) i.numeral).1

passing_front : (p : ℕ → Bool) (xs ys : List ℕ) → list_all p xs ≡ true → length xs ≤ prefix_len p (xs ++ ys)
passing_front p [] ys each = omega arith
passing_front p (x ∷ xs) ys each =
    let parts = and_parts (p x) (list_all p xs) each in
    subst (λ b. suc (length xs) ≤ cond b (1 + prefix_len p (xs ++ ys)) 0) (sym parts.0) (omega (arith, passing_front p xs ys parts.1))

front_passes : (p : ℕ → Bool) (xs : List ℕ) → list_all p (take (prefix_len p xs) xs) ≡ true
front_passes p [] = refl
front_passes p (x ∷ xs) = ⊎_elim
    (λ passes.
    let n = prefix_len p xs in
    let e : prefix_len p (x ∷ xs) ≡ suc n = cond-true _ _ _ passes ∙ (let f : 1 + n ≡ suc n = omega arith in f) in
    ap (λ k. list_all p (take k (x ∷ xs))) e ∙ and_from (p x) (list_all p (take n xs)) passes (front_passes p xs))
    (λ fails. ap (λ k. list_all p (take k (x ∷ xs))) (cond-false _ (1 + prefix_len p xs) 0 fails))
    (cases_Bool (p x))

-- What is read of a number, by its base, is no shorter than these digits with what tells their base. If it is of the
-- same length, it has these digits.
record RunsTo (bytes : List ℕ) (base : ℕ) (digits : List ℕ) (n : ℕ) (r : Radix) : Type 0 where
  long : n ≤ number_end r bytes
  same_base : number_end r bytes ≡ n → r.base ≡ base
  same_digits : number_end r bytes ≡ n → digits_in r bytes n ≡ digits

-- digits with no mark
alone : (base : ℕ) (text rest : List ℕ) → list_all (is_counted base) text ≡ true → RunsTo (text ++ rest) base text (length text) (record { base = base; len = 0 })
alone base text rest each = record {
  long = omega (arith, passing_front (is_counted base) text rest each);
  same_base = λ _. refl;
  same_digits = λ _. ap (λ n. take n (text ++ rest)) (let e : length text - 0 ≡ length text = omega arith in e) ∙ take_at text rest (length text) refl;
}

run_octal : (after rest : List ℕ) → list_all (is_counted 8) (48 ∷ after) ≡ true → (o : Option ℕ) → marked_base (slice_index (after ++ rest) 0) ≡ o
    → RunsTo ((48 ∷ after) ++ rest) 8 (48 ∷ after) (suc (length after)) (radix_marked o)
run_octal after rest each None is = alone 8 (48 ∷ after) rest each
run_octal [] rest each (Some base) is = record {
  long = omega arith;
  same_base = λ same. absurd (let x : ⊥ = omega (arith, same) in x);
  same_digits = λ same. absurd (let x : ⊥ = omega (arith, same) in x);
}
run_octal (d ∷ after) rest each (Some base) is =
    let parts = and_parts (is_counted 8 48) (list_all (is_counted 8) (d ∷ after)) each in
    let counted = and_parts (is_counted 8 d) (list_all (is_counted 8) after) parts.1 in
    absurd (true≢false (sym counted.0 ∙ mark_no_digit d base is))

run_marked : (mark base : ℕ) (digits rest : List ℕ) → list_all (is_counted base) digits ≡ true
    → RunsTo (48 ∷ mark ∷ (digits ++ rest)) base digits (suc (suc (length digits))) (record { base = base; len = 2 })
run_marked mark base digits rest each = record {
  long = omega (arith, passing_front (is_counted base) digits rest each);
  same_base = λ _. refl;
  same_digits = λ _. ap (λ n. take n (digits ++ rest)) (let e : suc (suc (length digits)) - 2 ≡ length digits = omega arith in e) ∙ take_at digits rest (length digits) refl;
}

run_at : (base : ℕ) (digits text rest : List ℕ) → HasDigits base digits text → list_all (is_counted base) digits ≡ true
    → RunsTo (text ++ rest) base digits (length text) (radix (text ++ rest))
run_at base digits text rest (marked mark spelling is) each =
    subst (λ t. RunsTo (t ++ rest) base digits (length t) (radix (t ++ rest))) (sym spelling)
    (subst (RunsTo (48 ∷ mark ∷ (digits ++ rest)) base digits (suc (suc (length digits)))) (sym (radix_zero (mark ∷ (digits ++ rest)) ∙ ap radix_marked is))
    (run_marked mark base digits rest each))
run_at base digits text rest (octal after spelling first is) each =
    let counted : list_all (is_counted 8) (48 ∷ after) ≡ true = ap (λ b. list_all (is_counted b) (48 ∷ after)) (sym is) ∙ ap (list_all (is_counted base)) (sym first) ∙ each in
    let o = marked_base (slice_index (after ++ rest) 0) in
    subst (λ t. RunsTo (t ++ rest) base digits (length t) (radix (t ++ rest))) (sym (spelling ∙ first))
    (subst (λ b. RunsTo ((48 ∷ after) ++ rest) b digits (suc (length after)) (radix (48 ∷ (after ++ rest)))) (sym is)
    (subst (λ ds. RunsTo ((48 ∷ after) ++ rest) 8 ds (suc (length after)) (radix (48 ∷ (after ++ rest)))) (sym first)
    (subst (RunsTo ((48 ∷ after) ++ rest) 8 (48 ∷ after) (suc (length after))) (sym (radix_zero (after ++ rest))) (run_octal after rest counted o refl))))
run_at base digits text rest (decimal first after spelling begins range is) each =
    let counted : list_all (is_counted 10) (first ∷ after) ≡ true = ap (λ b. list_all (is_counted b) (first ∷ after)) (sym is) ∙ ap (list_all (is_counted base)) (sym begins) ∙ each in
    let other : (first == 48) ≡ false = ne_eqb first 48 (λ e. omega (arith, e, leb-true 49 first (and_parts (nat_le 49 first) (nat_le first 57) range).0)) in
    subst (λ t. RunsTo (t ++ rest) base digits (length t) (radix (t ++ rest))) (sym (spelling ∙ begins))
    (subst (λ b. RunsTo ((first ∷ after) ++ rest) b digits (suc (length after)) (radix (first ∷ (after ++ rest)))) (sym is)
    (subst (λ ds. RunsTo ((first ∷ after) ++ rest) 10 ds (suc (length after)) (radix (first ∷ (after ++ rest)))) (sym begins)
    (subst (RunsTo ((first ∷ after) ++ rest) 10 (first ∷ after) (suc (length after))) (sym (radix_other first (after ++ rest) other)) (alone 10 (first ∷ after) rest counted))))

-- a number begins with a digit
begins_digit : (base : ℕ) (digits text rest : List ℕ) → HasDigits base digits text → is_decimal (slice_index (text ++ rest) 0) ≡ true
begins_digit base digits text rest (marked mark spelling is) = ap (λ t. is_decimal (slice_index (t ++ rest) 0)) spelling
begins_digit base digits text rest (octal after spelling first is) = ap (λ t. is_decimal (slice_index (t ++ rest) 0)) (spelling ∙ first)
begins_digit base digits text rest (decimal first after spelling begins range is) =
    let parts = and_parts (nat_le 49 first) (nat_le first 57) range in
    ap (λ t. is_decimal (slice_index (t ++ rest) 0)) (spelling ∙ begins)
    ∙ and_from (nat_le 48 first) (nat_le first 57) (le-leb 48 first (omega (arith, leb-true 49 first parts.0))) parts.1

lexeme_number : (bytes : List ℕ) → is_decimal (slice_index bytes 0) ≡ true → lexeme bytes ≡ number bytes
unfolding lexeme
lexeme_number bytes digit =
    let b = slice_index bytes 0 in
    let range = and_parts (nat_le 48 b) (nat_le b 57) digit in
    let low : 48 ≤ b = leb-true 48 b range.0 in
    let high : b ≤ 57 = leb-true b 57 range.1 in
    cond-false _ _ _ (ne_eqb b 34 (λ e. omega (arith, e, low))) ∙ cond-false _ _ _ (ne_eqb b 39 (λ e. omega (arith, e, low)))
    ∙ cond-false _ _ _ (ne_eqb b 96 (λ e. omega (arith, e, high))) ∙ cond-true _ _ _ digit

-- what is read, right or wrong, is a run
abbrev DigitsBy : List ℕ → ℕ → Radix → Type 0
DigitsBy bytes end r = HasDigits r.base (digits_in r bytes end) (take end bytes)

has_marked : (bytes : List ℕ) (end : ℕ) → 1 ≤ end → (o : Option ℕ) → marked_base (slice_index bytes 0) ≡ o → (radix_marked o).len ≤ end
    → DigitsBy (48 ∷ bytes) end (radix_marked o)
has_marked bytes end low None is le =
    octal (take (end - 1) bytes) (ap (λ n. take n (48 ∷ bytes)) (let e : end ≡ end - 0 = omega arith in e))
    (ap (λ n. take n (48 ∷ bytes)) (let e : end - 0 ≡ suc (end - 1) = omega arith in e)) refl
has_marked [] end low (Some base) is le = absurd (let e : None ≡ Some base = is in cc)
has_marked (mark ∷ bytes) end low (Some base) is le =
    marked mark (ap (λ n. take n (48 ∷ mark ∷ bytes)) (let e : end ≡ suc (suc (end - 2)) = omega (arith, le) in e)) is

has_digits : (bytes : List ℕ) (end : ℕ) → is_decimal (slice_index bytes 0) ≡ true → 1 ≤ end → (radix bytes).len ≤ end → DigitsBy bytes end (radix bytes)
has_digits [] end digit low le = absurd (true≢false (sym digit))
has_digits (b ∷ bytes) end digit low le = ⊎_elim
    (λ is.
    let zero_ : b ≡ 48 = eqb-true b 48 is in
    let r : radix (48 ∷ bytes) ≡ radix_marked (marked_base (slice_index bytes 0)) = radix_zero bytes in
    let short : (radix_marked (marked_base (slice_index bytes 0))).len ≤ end =
    omega (arith, le, ap (λ (x : Radix). x.len) (sym r), ap (λ x. (radix (x ∷ bytes)).len) zero_) in
    subst (λ x. DigitsBy (x ∷ bytes) end (radix (x ∷ bytes))) (sym zero_)
    (subst (DigitsBy (48 ∷ bytes) end) (sym r) (has_marked bytes end low (marked_base (slice_index bytes 0)) refl short)))
    (λ other.
    let range = and_parts (nat_le 48 b) (nat_le b 57) digit in
    let above : 48 ≤ b = leb-true 48 b range.0 in
    let apart : b ≡ 48 → ⊥ = eqb-false b 48 other in
    subst (DigitsBy (b ∷ bytes) end) (sym (radix_other b bytes other))
    (decimal b (take (end - 1) bytes) (ap (λ n. take n (b ∷ bytes)) (let e : end ≡ end - 0 = omega arith in e))
    (ap (λ n. take n (b ∷ bytes)) (let e : end - 0 ≡ suc (end - 1) = omega arith in e))
    (and_from (nat_le 49 b) (nat_le b 57) (le-leb 49 b (omega arith)) range.1) refl))
    (cases_Bool (b == 48))

-- where a number's digits end, right or wrong
abbrev end_of : List ℕ → ℕ
end_of bytes = number_end (radix bytes) bytes

run_of : (bytes : List ℕ) → is_decimal (slice_index bytes 0) ≡ true → IsRun (take (end_of bytes) bytes)
run_of bytes digit =
    let r = radix bytes in
    let n = counted_len r.base (drop r.len bytes) in
    record {
      base = r.base;
      digits = digits_in r bytes (end_of bytes);
      number = has_digits bytes (end_of bytes) digit (number_end_in bytes digit).0 (omega arith);
      counted = ap (λ k. list_all (is_counted r.base) (take k (drop r.len bytes))) (let e : end_of bytes - r.len ≡ n = omega arith in e)
          ∙ front_passes (is_counted r.base) (drop r.len bytes);
    }

-- what is read is a whole number within the greatest
abbrev IsWhole : List ℕ → Type 0
IsWhole bytes =
    (is_numeral (radix bytes).base (digits_in (radix bytes) bytes (end_of bytes)) ≡ true)
    × (number_of (radix bytes).base (digits_in (radix bytes) bytes (end_of bytes)) ≤ greatest)

-- so it is where a whole number of the same length stands
int_exact : (bytes text rest : List ℕ) → bytes ≡ text ++ rest → IsInt text → end_of bytes ≡ length text → IsWhole bytes
int_exact bytes text rest spelling i same =
    let at : RunsTo bytes i.base i.digits (length text) (radix bytes) =
    subst (λ t. RunsTo t i.base i.digits (length text) (radix t)) (sym spelling) (run_at i.base i.digits text rest i.number (int_counted text i)) in
    let digits = digits_in (radix bytes) bytes (end_of bytes) in
    let base_is = at.same_base same in
    let digits_is : digits ≡ i.digits = ap (digits_in (radix bytes) bytes) same ∙ at.same_digits same in (
      ap (λ b. is_numeral b digits) base_is ∙ ap (is_numeral i.base) digits_is ∙ i.numeral,
      omega (arith, ap (λ b. number_of b digits) base_is, ap (number_of i.base) digits_is, i.small),
    )

-- a run that is no whole number
run_outdone : (bytes : List ℕ) (n : ℕ) → is_decimal (slice_index bytes 0) ≡ true → n < end_of bytes → (IsWhole bytes → ⊥) → Outdone bytes n
run_outdone bytes n digit short apart =
    let end = end_of bytes in
    let long : length (take end bytes) ≡ end = length-take-le end bytes (number_end_in bytes digit).1 in
    record {
      text = take end bytes;
      rest = drop end bytes;
      faulty = no_int (run_of bytes digit) (λ i. apart (int_exact bytes (take end bytes) (drop end bytes) (sym (take-append-drop end bytes)) i (sym long)));
      spelling = sym (take-append-drop end bytes);
      longer = omega (arith, long, short);
    }

-- what follows a number and makes it faulty
abbrev follows_badly : ℕ → Bool
follows_badly b = begins_fraction b || b == 105

next_outdone : (bytes : List ℕ) (n : ℕ) → is_decimal (slice_index bytes 0) ≡ true → n ≤ end_of bytes → follows_badly (slice_index bytes (end_of bytes)) ≡ true → Outdone bytes n
next_outdone bytes n digit short badly =
    let end = end_of bytes in
    let b = get_or bytes end 0 in
    let long : length (take end bytes) ≡ end = length-take-le end bytes (number_end_in bytes digit).1 in
    ⊎_elim
    (λ (inside : end < length bytes). record {
      text = take end bytes ++ b ∷ [];
      rest = drop (end + 1) bytes;
      faulty = continued (take end bytes) b refl (run_of bytes digit) badly;
      spelling = sym (take-append-drop (end + 1) bytes) ∙ ap (λ t. t ++ drop (end + 1) bytes) (take_more bytes end 0 inside);
      longer = omega (arith, long, short, length_push (take end bytes) b);
    })
    (λ past. absurd (true≢false (sym badly ∙ ap follows_badly (get_or_past bytes end 0 past))))
    (cases_lt end (length bytes))

-- where a whole number of so many bytes stands
number_reads : (bytes : List ℕ) (kind : TokenKind) (n : ℕ) → is_decimal (slice_index bytes 0) ≡ true → kind ≡ Int → n ≤ end_of bytes → (end_of bytes ≡ n → IsWhole bytes)
    → Reads bytes kind n (number bytes)
unfolding number whole_number whole
number_reads bytes kind n digit is le exact =
    let r = radix bytes in
    let end = end_of bytes in
    let next = slice_index bytes end in
    let digits = digits_in r bytes end in
    tested (Reads bytes kind n) (begins_fraction next) _ _ (λ f. next_outdone bytes n digit le (or_left (begins_fraction next) (next == 105) f))
    (λ _. tested (Reads bytes kind n) (next == 105) _ _ (λ i. next_outdone bytes n digit le (or_right (begins_fraction next) (next == 105) i))
    (λ _. tested (Reads bytes kind n) (is_numeral r.base digits) _ _
    (λ numeral. tested (λ o. Reads bytes kind n (within end o)) (nat_lt greatest (number_of r.base digits)) _ _
    (λ past. outdone (λ w. omega (arith, w.1, ltb-true greatest (number_of r.base digits) past)))
    (λ small. (le, (λ _. is))))
    (λ other. outdone (λ w. true≢false (sym w.0 ∙ other)))))
  where
    outdone : (IsWhole bytes → ⊥) → Outdone bytes n
    outdone apart = ⊎_elim
        (λ short. run_outdone bytes n digit short apart)
        (λ (ge : end_of bytes ≤ n). absurd (apart (exact (omega arith))))
        (cases_lt n (end_of bytes))

pub int_reads : (kind : TokenKind) (text rest : List ℕ) → kind ≡ Int → IsInt text → Reads (text ++ rest) kind (length text) (lexeme (text ++ rest))
int_reads kind text rest is i =
    let bytes = text ++ rest in
    let digit = begins_digit i.base i.digits text rest i.number in
    let at = run_at i.base i.digits text rest i.number (int_counted text i) in
    subst (Reads bytes kind (length text)) (sym (lexeme_number bytes digit))
    (number_reads bytes kind (length text) digit is at.long (λ same. int_exact bytes text rest refl i same))

-- a number that is read is a whole number
pub number_sound : (bytes : List ℕ) → is_decimal (slice_index bytes 0) ≡ true → Sound bytes (number bytes)
unfolding number whole_number whole
number_sound bytes digit =
    let r = radix bytes in
    let end = end_of bytes in
    let next = slice_index bytes end in
    let digits = digits_in r bytes end in
    tested (Sound bytes) (begins_fraction next) _ _ (λ _. tt)
    (λ _. tested (Sound bytes) (next == 105) _ _ (λ _. tt)
    (λ _. tested (Sound bytes) (is_numeral r.base digits) _ _
    (λ numeral. tested (λ o. Sound bytes (within end o)) (nat_lt greatest (number_of r.base digits)) _ _
    (λ _. tt)
    (λ small. int refl (record {
      base = r.base;
      digits = digits;
      number = has_digits bytes end digit (number_end_in bytes digit).0 (omega arith);
      numeral = numeral;
      small = ltb-false greatest (number_of r.base digits) small;
    })))
    (λ _. tt)))

-- where a faulty number stands, a number that is read is no shorter
number_at_least : (bytes : List ℕ) (n : ℕ) → (follows_badly (slice_index bytes (end_of bytes)) ≡ false → n ≤ end_of bytes) → HasAtLeast n (number bytes)
unfolding number whole_number
number_at_least bytes n le =
    let r = radix bytes in
    let end = end_of bytes in
    let next = slice_index bytes end in
    let digits = digits_in r bytes end in
    tested (HasAtLeast n) (begins_fraction next) _ _ (λ _. tt)
    (λ no. tested (HasAtLeast n) (next == 105) _ _ (λ _. tt)
    (λ no'. tested (HasAtLeast n) (is_numeral r.base digits) _ _
    (λ _. by_whole (whole r.base digits) (le (or_from (begins_fraction next) (next == 105) no no'))) (λ _. tt)))
  where
    by_whole : (o : Option ℕ) → n ≤ end_of bytes → HasAtLeast n (within (end_of bytes) o)
    by_whole None le = tt
    by_whole (Some v) le = le

continued_reads : (run rest : List ℕ) (b : ℕ) → IsRun run → follows_badly b ≡ true → HasAtLeast (length run + 1) (lexeme (run ++ b ∷ rest))
continued_reads run rest b is badly =
    let bytes = run ++ b ∷ rest in
    let at = run_at is.base is.digits run (b ∷ rest) is.number is.counted in
    subst (HasAtLeast (length run + 1)) (sym (lexeme_number bytes (begins_digit is.base is.digits run (b ∷ rest) is.number)))
    (number_at_least bytes (length run + 1) (λ well. ⊎_elim
    (λ (far : length run < end_of bytes). omega arith)
    (λ (near : end_of bytes ≤ length run).
    let same : length run ≡ end_of bytes = omega (arith, at.long, near) in
    absurd (true≢false (sym badly ∙ ap follows_badly (sym (get_or_at run b rest 0 (end_of bytes) same)) ∙ well)))
    (cases_lt (length run) (end_of bytes))))

pub faulty_reads : (text rest : List ℕ) → IsFaulty text → HasAtLeast (length text) (lexeme (text ++ rest))
faulty_reads text rest (continued run b spelling is badly) =
    let whole_text : text ++ rest ≡ run ++ b ∷ rest = ap (λ t. t ++ rest) spelling ∙ append_assoc run (b ∷ []) rest in
    let long : length run + 1 ≡ length text = sym (ap length spelling ∙ length_push run b) in
    subst (λ t. HasAtLeast (length text) (lexeme t)) (sym whole_text)
    (subst (λ n. HasAtLeast n (lexeme (run ++ b ∷ rest))) long (continued_reads run rest b is badly))
faulty_reads text rest (no_int is apart) =
    subst (HasAtLeast (length text)) (sym (lexeme_number (text ++ rest) (begins_digit is.base is.digits text rest is.number)))
    (number_at_least (text ++ rest) (length text) (λ _. (run_at is.base is.digits text rest is.number is.counted).long))
faulty_reads text rest (point b spelling digit) =
    subst (λ t. HasAtLeast (length t) (lexeme (t ++ rest))) (sym spelling)
    (subst (HasAtLeast 2) (sym (lexeme_word 46 (b ∷ rest) refl ∙ cond-true _ _ _ digit)) tt)
