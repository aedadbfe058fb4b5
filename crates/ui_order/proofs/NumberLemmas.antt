-- Numbers in lists, and lists at places.
use Rattle.std.specs.Prelude.{◌≡◌, ℕ, zero, suc, ◌+◌, ◌-◌, ◌<◌, true, nat_eq, List, [], ◌∷◌, ◌++◌, length, get_or, set, replicate, Vec, refl}
use Rattle.std.proofs.Common.{◌∙◌, ap, sym, subst, arith, inl, inr}
use Rattle.std.specs.declared.alloc.Global.{Global}
use Rattle.std.proofs.lemmas.Bool.{or_cases, or_right, false≢true}
use Rattle.std.specs.List.{range_with_len}
use Rattle.std.proofs.lemmas.List.FromFn.{length-range_with_len, get_or-range_with_len}
use Rattle.std.proofs.lemmas.Bool.Decides.{Decides-eqb}
use Rattle.ui_order.specs.Steps.{has}
use Rattle.ui_order.specs.StepLaws.{has-self}
use Rattle.ui_order.specs.Numbers.{Links, linked}

pub has-get_or : (xs : List ℕ) (i d : ℕ) → i < length xs → has nat_eq xs (get_or xs i d) ≡ true
has-get_or [] i d h = absurd (omega arith)
has-get_or (x ∷ xs) zero d h = has-self nat_eq Decides-eqb x xs
has-get_or (x ∷ xs) (suc i) d h = or_right (nat_eq (get_or xs i d) x) (has nat_eq xs (get_or xs i d)) (has-get_or xs i d (omega arith))

pub place_of : (xs : List ℕ) (q : ℕ) → has nat_eq xs q ≡ true → (i : ℕ) × ((i < length xs) × (get_or xs i 0 ≡ q))
place_of [] q h = absurd (false≢true h)
place_of (x ∷ xs) q h = elim (or_cases (nat_eq q x) (has nat_eq xs q) h) [
  | inl e ↦ (0, (omega arith, sym ((Decides-eqb q x).0 e)))
  | inr e ↦ let r = place_of xs q e in (suc r.0, (let l = r.1.0 in omega arith, r.1.1))
]

pub linked-is : (vs : Links) (i : ℕ) (v : Vec ℕ Global) → i < length vs → v ≡ get_or vs i v → linked vs i ≡ v.items
linked-is [] i v h e = absurd (omega arith)
linked-is (w ∷ vs) zero v h e = ap (λ u. u.items) (sym e)
linked-is (w ∷ vs) (suc i) v h e = linked-is vs i v (omega arith) e

pub linked-past : (vs : Links) (i : ℕ) (q : ℕ) → has nat_eq (linked vs i) q ≡ true → i < length vs
linked-past [] i q h = absurd (false≢true h)
linked-past (w ∷ vs) zero q h = omega arith
linked-past (w ∷ vs) (suc i) q h = let l = linked-past vs i q h in omega arith

pub linked-set_same : (vs : Links) (i : ℕ) (v : Vec ℕ Global) → i < length vs → linked (set vs i v) i ≡ v.items
linked-set_same [] i v h = absurd (omega arith)
linked-set_same (w ∷ vs) zero v h = refl
linked-set_same (w ∷ vs) (suc i) v h = linked-set_same vs i v (omega arith)

pub linked-set_other : (vs : Links) (i j : ℕ) (v : Vec ℕ Global) → (j ≡ i → ⊥) → linked (set vs i v) j ≡ linked vs j
linked-set_other [] i j v h = refl
linked-set_other (w ∷ vs) zero zero v h = absurd (h refl)
linked-set_other (w ∷ vs) zero (suc j) v h = refl
linked-set_other (w ∷ vs) (suc i) zero v h = refl
linked-set_other (w ∷ vs) (suc i) (suc j) v h = linked-set_other vs i j v (λ e. h (ap suc e))

pub get_or-any : {X : Type 0} (xs : List X) (i : ℕ) (d e : X) → i < length xs → get_or xs i d ≡ get_or xs i e
get_or-any [] i d e h = absurd (omega arith)
get_or-any (x ∷ xs) zero d e h = refl
get_or-any (x ∷ xs) (suc i) d e h = get_or-any xs i d e (omega arith)

pub range-step : (k n : ℕ) → k < n → range_with_len k (n - k) ≡ k ∷ range_with_len (k + 1) (n - (k + 1))
range-step k n h = ap (range_with_len k) (let e : n - k ≡ suc (n - (k + 1)) = omega arith in e)

pub has-numbers : (n k : ℕ) → k < n → has nat_eq (range_with_len 0 n) k ≡ true
has-numbers n k h =
    let size = length-range_with_len 0 n in
    let at : get_or (range_with_len 0 n) k 0 ≡ k = get_or-range_with_len 0 n k 0 h ∙ (let e : 0 + k ≡ k = omega arith in e) in
    subst (λ x. has nat_eq (range_with_len 0 n) x ≡ true) at (has-get_or (range_with_len 0 n) k 0 (omega arith))

pub numbers-has : (n k : ℕ) → has nat_eq (range_with_len 0 n) k ≡ true → k < n
numbers-has n k h =
    let place = place_of (range_with_len 0 n) k h in
    let size = length-range_with_len 0 n in
    let low : place.0 < n = let l = place.1.0 in omega arith in
    let at = get_or-range_with_len 0 n place.0 0 low in
    let same = place.1.1 in
    omega arith

pub linked-push : (vs : Links) (v : Vec ℕ Global) → ((j : ℕ) → linked vs j ≡ []) → v.items ≡ [] → (j : ℕ) → linked (vs ++ v ∷ []) j ≡ []
linked-push [] v h e zero = e
linked-push [] v h e (suc j) = refl
linked-push (w ∷ vs) v h e zero = h 0
linked-push (w ∷ vs) v h e (suc j) = linked-push vs v (λ i. h (suc i)) e j

pub get_or-replicate : {X : Type 0} (n k : ℕ) (x : X) → get_or (replicate n x) k x ≡ x
get_or-replicate zero k x = refl
get_or-replicate (suc n) zero x = refl
get_or-replicate (suc n) (suc k) x = get_or-replicate n k x

pub length-replicate : {X : Type 0} (n : ℕ) (x : X) → length (replicate n x) ≡ n
length-replicate zero x = refl
length-replicate (suc n) x = ap suc (length-replicate n x)

pub no_keys : {X : Type 0} (xs : List X) → (0 < length xs → ⊥) → xs ≡ []
no_keys [] h = refl
no_keys (x ∷ xs) h = absurd (h (omega arith))
