-- Neighbours of a list by their places.
use Rattle.std.proofs.Common.{◌≡◌, inl, inr, ℕ, zero, suc, ◌+◌, ◌-◌, ◌<◌, ◌≤◌, Bool, true, false}
use Rattle.std.proofs.Common.{List, [], ◌∷◌, map, length, get_or, refl, sym, ap, ◌∙◌, arith}
use Rattle.std.proofs.lemmas.Bool.{cases_lt}
use Rattle.std.specs.Prelude.{◌&&◌}
use Rattle.ui_file.specs.Rules.{all_after, all_pairs}

both : (a b : Bool) → a ≡ true → b ≡ true → (a && b) ≡ true
both a b e h = rw (e, h) refl

not_first : (a b : Bool) → a ≡ false → (a && b) ≡ false
not_first a b e = rw e refl

not_second : (a b : Bool) → b ≡ false → (a && b) ≡ false
not_second true b e = e
not_second false b e = refl

module _ {X : Type 0} (p : X → X → Bool) (d : X) where
  after_all : (x : X) (ys : List X)
      → ((k : ℕ) → k < length ys → p (get_or (x ∷ ys) k d) (get_or ys k d) ≡ true)
      → all_after p x ys ≡ true
  after_all x [] h = refl
  after_all x (y ∷ ys) h = both (p x y) (all_after p y ys) (h 0 (omega arith))
      (after_all y ys (λ k lt. h (suc k) (omega arith)))

  after_one : (x : X) (ys : List X) (k : ℕ) → k < length ys
      → p (get_or (x ∷ ys) k d) (get_or ys k d) ≡ false → all_after p x ys ≡ false
  after_one x [] k lt e = absurd (omega arith)
  after_one x (y ∷ ys) zero lt e = not_first (p x y) (all_after p y ys) e
  after_one x (y ∷ ys) (suc k) lt e = not_second (p x y) (all_after p y ys)
      (after_one y ys k (omega arith) e)

  pub pairs_all : (xs : List X) →
      ((k : ℕ) → suc k < length xs → p (get_or xs k d) (get_or xs (suc k) d) ≡ true)
      → all_pairs p xs ≡ true
  pairs_all [] h = refl
  pairs_all (x ∷ xs) h = after_all x xs (λ k lt. h k (omega arith))

  pub pairs_one : (xs : List X) (k : ℕ) → suc k < length xs
      → p (get_or xs k d) (get_or xs (suc k) d) ≡ false → all_pairs p xs ≡ false
  pairs_one [] k lt e = absurd (omega arith)
  pairs_one (x ∷ xs) k lt e = after_one x xs k (omega arith) e

-- ---- the loop over neighbours

-- each of the first k stands so to the one before it
pub record AreOrdered {X : Type 0} (p : X → X → Bool) (xs : List X) (k : ℕ) : Type 0 where
  pub first : 1 ≤ k
  pub so_far : (d : X) (j : ℕ) → suc j < k → p (get_or xs j d) (get_or xs (suc j) d) ≡ true

pub none_ordered : {X : Type 0} (p : X → X → Bool) (xs : List X) → AreOrdered p xs 1
none_ordered p xs = record { first = omega arith; so_far = λ d j lt. absurd (omega arith) }

-- within a list any other value may stand for what isn't there
default : {X : Type 0} (xs : List X) (k : ℕ) (a d : X) → k < length xs → get_or xs k a
    ≡ get_or xs k d
default [] k a d h = absurd (omega arith)
default (y ∷ xs) zero a d h = refl
default (y ∷ xs) (suc k) a d h = default xs k a d (omega arith)

module _ {X : Type 0} (p : X → X → Bool) (xs : List X) (k : ℕ) (a b : X) where
  at_pair : (d : X) → 1 ≤ k → k < length xs → a ≡ get_or xs (k - 1) a → b ≡ get_or xs k b
      → (j : ℕ) → suc j ≡ k → p (get_or xs j d) (get_or xs (suc j) d) ≡ p a b
  at_pair d first lt e f j is =
      let back : j ≡ k - 1 = omega arith in
      let one : get_or xs j d ≡ a =
      ap (λ (n : ℕ). get_or xs n d) back
      ∙ default xs (k - 1) d a (omega arith) ∙ sym e in
      let other : get_or xs (suc j) d ≡ b =
      ap (λ (n : ℕ). get_or xs n d) is ∙ default xs k d b lt ∙ sym f in
      λ i. p (one i) (other i)

  pub more_ordered : AreOrdered p xs k → k < length xs → a ≡ get_or xs (k - 1) a → b ≡ get_or xs k b
      → p a b ≡ true → AreOrdered p xs (k + 1)
  more_ordered h lt e f holds = record {
    first = omega arith;
    so_far = λ d j less. elim (cases_lt (suc j) k) [
      | inl l ↦ h.so_far d j l
      | inr g ↦ at_pair d h.first lt e f j (omega arith) ∙ holds
    ];
  }

  pub disordered : AreOrdered p xs k → k < length xs → a ≡ get_or xs (k - 1) a → b ≡ get_or xs k b
      → p a b ≡ false → false ≡ all_pairs p xs
  disordered h lt e f fails =
      let j : ℕ = k - 1 in
      let is : suc j ≡ k = (let one = h.first in omega arith) in
      sym (pairs_one p a xs j (omega arith) (at_pair a h.first lt e f j is ∙ fails))

pub all_ordered : {X : Type 0} (p : X → X → Bool) (xs : List X) (k : ℕ) → length xs ≤ k
    → AreOrdered p xs k → true ≡ all_pairs p xs
all_ordered p [] k le h = refl
all_ordered p (x ∷ xs) k le h = sym (pairs_all p x (x ∷ xs) (λ j lt. h.so_far x j (omega arith)))

-- a list seen item by item
pub pairs_map : {X Y : Type 0} (p : Y → Y → Bool) (f : X → Y) (xs : List X)
    → all_pairs (λ a b. p (f a) (f b)) xs ≡ all_pairs p (map f xs)
pairs_map p f [] = refl
pairs_map {X = X} p f (x ∷ xs) = after x xs
  where
    after : (x : X) (ys : List X) → all_after (λ a b. p (f a) (f b)) x ys
        ≡ all_after p (f x) (map f ys)
    after x [] = refl
    after x (y ∷ ys) = ap (λ (b : Bool). p (f x) (f y) && b) (after y ys)
