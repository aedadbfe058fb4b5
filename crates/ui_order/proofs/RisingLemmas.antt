-- Lists that rise.
use Rattle.std.specs.Prelude.{◌≡◌, ◌↔◌, ℕ, ◌+◌, ◌-◌, ◌<◌, ◌≤◌, true, nat_eq, List, [], ◌∷◌, ◌++◌, length, get_or, take, refl}
use Rattle.std.proofs.Common.{◌∙◌, ap, sym, subst, arith, inl, inr}
use Rattle.std.proofs.Math.Seq.{get_or-append_seam, take-length}
use Rattle.std.proofs.lemmas.List.{length-append, length-take-le, get_or_append_left, get_or-take, take_more}
use Rattle.std.proofs.lemmas.Bool.{cases_lt}
use Rattle.ui_order.specs.Steps.{has}
use Rattle.ui_order.specs.Components.{IsRising}
use Rattle.ui_order.proofs.NumberLemmas.{has-get_or, place_of}

pub length_more : (xs : List ℕ) (y : ℕ) → length (xs ++ y ∷ []) ≡ length xs + 1
length_more xs y = length-append xs (y ∷ [])

pub get_or_old : (xs : List ℕ) (y i : ℕ) → i < length xs → get_or (xs ++ y ∷ []) i 0 ≡ get_or xs i 0
get_or_old xs y i l = get_or_append_left xs (y ∷ []) 0 i l

pub get_or_new : (xs : List ℕ) (y i : ℕ) → i ≡ length xs → get_or (xs ++ y ∷ []) i 0 ≡ y
get_or_new xs y i e = ap (λ n. get_or (xs ++ y ∷ []) n 0) e ∙ get_or-append_seam xs y [] 0

pub last_split : (xs : List ℕ) → 0 < length xs → xs ≡ take (length xs - 1) xs ++ get_or xs (length xs - 1) 0 ∷ []
last_split xs l = sym (take-length xs) ∙ ap (λ n. take n xs) (let e : length xs ≡ (length xs - 1) + 1 = omega arith in e) ∙ take_more xs (length xs - 1) 0 (omega arith)

pub rising_push : (xs : List ℕ) (y : ℕ) → IsRising xs → ((x : ℕ) → has nat_eq xs x ≡ true → x < y) → IsRising (xs ++ y ∷ [])
rising_push xs y r h i j l b =
    let size = length_more xs y in
    let low : i < length xs = omega arith in
    let ei = get_or_old xs y i low in
    elim (cases_lt j (length xs)) [
      | inl lj ↦ let ej = get_or_old xs y j lj in let less = r i j l lj in omega arith
      | inr gj ↦ let ej = get_or_new xs y j (omega arith) in let less = h (get_or xs i 0) (has-get_or xs i 0 low) in omega arith
    ]

pub rising_front : (xs : List ℕ) (y : ℕ) → IsRising (xs ++ y ∷ []) → IsRising xs
rising_front xs y r i j l b =
    let size = length_more xs y in
    let ei = get_or_old xs y i (omega arith) in
    let ej = get_or_old xs y j b in
    let less = r i j l (omega arith) in
    omega arith

pub rising_last : (xs : List ℕ) (y x : ℕ) → IsRising (xs ++ y ∷ []) → has nat_eq xs x ≡ true → x < y
rising_last xs y x r h =
    let size = length_more xs y in
    let place = place_of xs x h in
    let low : place.0 < length xs = place.1.0 in
    let same : get_or xs place.0 0 ≡ x = place.1.1 in
    let ei = get_or_old xs y place.0 low in
    let ej = get_or_new xs y (length xs) refl in
    let less = r place.0 (length xs) low (omega arith) in
    omega arith

-- the front up to a place, where what is behind it is larger than p
module _ (xs : List ℕ) (n p : ℕ) (r : IsRising xs) (fits : n ≤ length xs) where
  size_take : length (take n xs) ≡ n
  size_take = length-take-le n xs fits

  pub has_taken : (0 < n → get_or xs (n - 1) 0 ≤ p) → ((i : ℕ) → n ≤ i → i < length xs → p < get_or xs i 0) → (b : ℕ) → (has nat_eq (take n xs) b ≡ true) ↔ ((has nat_eq xs b ≡ true) × (b ≤ p))
  has_taken small large b = (
    λ h.
        let size = size_take in
        let place = place_of (take n xs) b h in
        let low : place.0 < n = let l = place.1.0 in omega arith in
        let at : get_or xs place.0 0 ≡ b = sym (get_or-take n xs place.0 0 low) ∙ place.1.1 in (
          subst (λ x. has nat_eq xs x ≡ true) at (has-get_or xs place.0 0 (omega arith)),
          let last = small (omega arith) in
              elim (cases_lt place.0 (n - 1)) [
                | inl l ↦ let less = r place.0 (n - 1) l (omega arith) in omega arith
                | inr g ↦ let same : get_or xs place.0 0 ≡ get_or xs (n - 1) 0 = ap (λ i. get_or xs i 0) (let e : place.0 ≡ n - 1 = omega arith in e) in omega arith
              ],
        ),
    λ h.
        let size = size_take in
        let place = place_of xs b h.0 in
        let bound = h.1 in
        elim (cases_lt place.0 n) [
          | inl l ↦ subst (λ x. has nat_eq (take n xs) x ≡ true) (get_or-take n xs place.0 0 l ∙ place.1.1) (has-get_or (take n xs) place.0 0 (omega arith))
          | inr g ↦ absurd (let more = large place.0 g place.1.0 in let same = place.1.1 in omega arith)
        ],
  )
