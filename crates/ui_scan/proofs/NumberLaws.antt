-- Numbers of digits, and their bound.
use Rattle.std.proofs.Common.{◌≡◌, ℕ, ◌+◌, ◌-◌, ◌*◌, ◌/◌, ◌<◌, ◌≤◌, cond, List, [], ◌∷◌, length, take, drop, get_or, refl, sym, ap, ◌∙◌, subst, arith, ⊎_elim}
use Rattle.std.specs.Prelude.{Some, None, fold, ◌==◌}
use Rattle.std.proofs.lemmas.List.{take-append-drop}
use Rattle.std.proofs.lemmas.List.Sums.{fold_more, fold-append}
use Rattle.std.proofs.lemmas.Bool.{cases_Bool, cases_lt, lt-ltb, le-ltb, eq-eqb, ne_eqb}
use Rattle.std.proofs.Math.Nat.{mul-le-mul_left, mul-le-mul_right}
use Rattle.std.proofs.lemmas.Nat.{le-div, div-add-mod'}
use Rattle.ui_scan.specs.Digits.{digit, with_digit, number_of, greatest, whole}

pub number_of-nil : (base : ℕ) → number_of base [] ≡ 0
unfolding number_of
number_of-nil base = refl

pub number_of_more : (base : ℕ) (digits : List ℕ) (i d : ℕ) → i < length digits
    → number_of base (take (i + 1) digits) ≡ with_digit base (number_of base (take i digits)) (get_or digits i d)
unfolding number_of
number_of_more base digits i d lt = fold_more (with_digit base) 0 digits i d lt

-- a number grows with each digit
with_digit-le : (base n b : ℕ) → 1 ≤ base → n ≤ with_digit base n b
with_digit-le base n b le = ⊎_elim
    (λ blank. subst (λ t. n ≤ cond t n (n * base + digit b)) (sym blank) (omega arith))
    (λ other. subst (λ t. n ≤ cond t n (n * base + digit b)) (sym other) (omega (arith, mul-le-mul_left n le)))
    (cases_Bool (b == 95))

fold_with_digit-le : (base n : ℕ) (digits : List ℕ) → 1 ≤ base → n ≤ fold (with_digit base) n digits
fold_with_digit-le base n [] le = omega arith
fold_with_digit-le base n (b ∷ digits) le =
    omega (arith, with_digit-le base n b le, fold_with_digit-le base (with_digit base n b) digits le)

pub number_of-take-le : (base : ℕ) (digits : List ℕ) (i : ℕ) → 1 ≤ base → number_of base (take i digits) ≤ number_of base digits
unfolding number_of
number_of-take-le base digits i le =
    let whole_is = ap (fold (with_digit base) 0) (take-append-drop i digits) in
    let cut = fold-append (with_digit base) 0 (take i digits) (drop i digits) in
    omega (arith, whole_is, cut, fold_with_digit-le base (number_of base (take i digits)) (drop i digits) le)

-- what the test says of one more digit
pub past_greatest : (n base d : ℕ) → 1 ≤ base → d ≤ 16 → (greatest - d) / base < n → greatest < n * base + d
past_greatest n base d le small past =
    ⊎_elim
    (λ (below : greatest < n * base + d). below)
    (λ (above : n * base + d ≤ greatest). absurd (omega (arith, le-div n (greatest - d) base le (omega arith))))
    (cases_lt greatest (n * base + d))

pub within_greatest : (n base d : ℕ) → 1 ≤ base → d ≤ 16 → n ≤ (greatest - d) / base → n * base + d ≤ greatest
within_greatest n base d le small within =
    let below : n * base ≤ (greatest - d) / base * base = mul-le-mul_right base within in
    let whole_part = div-add-mod' (greatest - d) base in
    omega (arith, below, whole_part)

pub whole_past : (base : ℕ) (digits : List ℕ) → greatest < number_of base digits → whole base digits ≡ None
unfolding whole
whole_past base digits past = ap (λ t. cond t None (Some (number_of base digits))) (lt-ltb greatest (number_of base digits) past)

pub whole_within : (base : ℕ) (digits : List ℕ) → number_of base digits ≤ greatest → whole base digits ≡ Some (number_of base digits)
unfolding whole
whole_within base digits within = ap (λ t. cond t None (Some (number_of base digits))) (le-ltb greatest (number_of base digits) within)

-- a step over a digit, and over a `_`
pub digit_counts : (base : ℕ) (digits : List ℕ) (i : ℕ) → i < length digits → (get_or digits i 0 ≡ 95 → ⊥)
    → number_of base (take (i + 1) digits) ≡ number_of base (take i digits) * base + digit (get_or digits i 0)
digit_counts base digits i lt other =
    number_of_more base digits i 0 lt
    ∙ ap (λ t. cond t (number_of base (take i digits)) (number_of base (take i digits) * base + digit (get_or digits i 0))) (ne_eqb _ 95 other)

pub blank_counts : (base : ℕ) (digits : List ℕ) (i : ℕ) → i < length digits → get_or digits i 0 ≡ 95
    → number_of base (take (i + 1) digits) ≡ number_of base (take i digits)
blank_counts base digits i lt blank =
    number_of_more base digits i 0 lt
    ∙ ap (λ t. cond t (number_of base (take i digits)) (number_of base (take i digits) * base + digit (get_or digits i 0))) (eq-eqb _ 95 blank)
