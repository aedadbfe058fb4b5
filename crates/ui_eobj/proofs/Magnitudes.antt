-- Bytes of magnitudes, one after another.
use Rattle.std.proofs.Common.{◌≡◌, ℕ, zero, suc, ◌+◌, ◌*◌, ◌/◌, ◌%◌, ◌^◌, ◌<◌, ◌≤◌, List, [], ◌∷◌, ◌++◌, length, drop, get_or, reverse, refl, sym, ap, ◌∙◌, arith}
use Rattle.std.specs.Prelude.{slice_index}
use Rattle.std.proofs.lemmas.List.{reverse-append, drop_more}
use Rattle.std.proofs.Math.Seq.{drop-cons}
use Rattle.ui_eobj.specs.Values.{magnitude, magnitude_from}

-- what follows only makes a number greater
at_least : (n : ℕ) (bytes : List ℕ) → n ≤ magnitude_from n bytes
unfolding magnitude_from
at_least n [] = omega arith
at_least n (b ∷ bs) = omega (arith, at_least (256 * n + b) bs)

pub turn : (n i : ℕ) (bytes : List ℕ) (b total : ℕ) → i < length bytes → b ≡ get_or bytes i 0 → magnitude_from n (drop i bytes) ≡ total → magnitude_from (256 * n + b) (drop (i + 1) bytes) ≡ total
unfolding magnitude_from
turn n i bytes b total h is so_far =
    let one : drop i bytes ≡ b ∷ drop (i + 1) bytes = drop_more bytes i 0 h ∙ ap (λ (x : ℕ). x ∷ drop (i + 1) bytes) (sym is) in
    ap (magnitude_from n) (sym one) ∙ so_far

pub too_great : (n i : ℕ) (bytes : List ℕ) (total : ℕ) → 2 ^ 120 ≤ n → i < length bytes → magnitude_from n (drop i bytes) ≡ total → 2 ^ 128 ≤ total
unfolding magnitude_from
too_great n i bytes total great h so_far =
    let whole : magnitude_from (256 * n + get_or bytes i 0) (drop (suc i) bytes) ≡ total = ap (magnitude_from n) (sym (drop-cons bytes i 0 h)) ∙ so_far in
    omega (arith, whole, at_least (256 * n + get_or bytes i 0) (drop (suc i) bytes))

none_left : {X : Type 0} (i : ℕ) (xs : List X) → length xs ≤ i → drop i xs ≡ []
none_left zero [] h = refl
none_left zero (x ∷ xs) h = absurd (omega arith)
none_left (suc i) [] h = refl
none_left (suc i) (x ∷ xs) h = none_left i xs (omega arith)

pub at_end : (n i : ℕ) (bytes : List ℕ) (total : ℕ) → length bytes ≤ i → magnitude_from n (drop i bytes) ≡ total → n ≡ total
unfolding magnitude_from
at_end n i bytes total h so_far = ap (magnitude_from n) (sym (none_left i bytes h)) ∙ so_far

-- a byte is split off a number
pub split : (n : ℕ) (bytes : List ℕ) (total : ℕ) → magnitude_from n bytes ≡ total → magnitude_from (n / 256) (n % 256 ∷ bytes) ≡ total
unfolding magnitude_from
split n bytes total so_far =
    let same : 256 * (n / 256) + n % 256 ≡ n = omega arith in
    ap (λ (m : ℕ). magnitude_from m bytes) same ∙ so_far

pub begun : (n : ℕ) (bytes : List ℕ) → bytes ≡ [] → magnitude_from n (reverse bytes) ≡ n
unfolding magnitude_from
begun n bytes e = ap (λ (bs : List ℕ). magnitude_from n (reverse bs)) e

-- a byte is pushed behind those that follow it
pub pushed : (bytes new : List ℕ) (b : ℕ) → new ≡ bytes ++ b ∷ [] → reverse new ≡ b ∷ reverse bytes
pushed bytes new b e = ap reverse e ∙ reverse-append bytes (b ∷ [])

pub pushed-number : (n : ℕ) (bytes new : List ℕ) (total : ℕ) → new ≡ bytes ++ n % 256 ∷ [] → magnitude_from n (reverse bytes) ≡ total → magnitude_from (n / 256) (reverse new) ≡ total
pushed-number n bytes new total e so_far = ap (magnitude_from (n / 256)) (pushed bytes new (n % 256) e) ∙ split n (reverse bytes) total so_far

pub pushed-first : (n : ℕ) (bytes new : List ℕ) → 0 < n → new ≡ bytes ++ n % 256 ∷ [] → n / 256 ≡ 0 → slice_index (reverse new) 0 ≡ 0 → ⊥
pushed-first n bytes new some e last first =
    let is : n % 256 ≡ 0 = sym (ap (λ (bs : List ℕ). slice_index bs 0) (pushed bytes new (n % 256) e)) ∙ first in
    omega arith
