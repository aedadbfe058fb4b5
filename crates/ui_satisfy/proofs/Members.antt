-- Lists of types as sets.
use Rattle.std.proofs.Common.{◌≡◌, ℕ, zero, suc, ◌+◌, ◌<◌, Bool, true, false, ◌||◌, ◌⊎◌, inl, inr}
use Rattle.std.proofs.Common.{List, [], ◌∷◌, ◌++◌, length, get_or, refl, sym, ap, ◌∙◌, arith}
use Rattle.std.specs.Prelude.{Contains, if◌then◌else◌}
use Rattle.ui_types.specs.Ty.{Ty}
use Rattle.ui_types.specs.Same.{same_type}
use Rattle.ui_types.proofs.SameLemmas.{type_sound, type_refl}
use Rattle.ui_satisfy.specs.Search.{is_in, put}

-- ---- lists
pub contains_head : {X : Type 0} (x : X) (xs : List X) → Contains (x ∷ xs) x
contains_head x xs = (0, omega arith, refl)

pub contains_tail : {X : Type 0} (x y : X) (xs : List X) → Contains xs y → Contains (x ∷ xs) y
contains_tail x y xs h = (suc h.0, (let p = h.1 in omega arith), h.2)

pub contains_none : {X : Type 0} (y : X) → Contains [] y → ⊥
contains_none y h = let p = h.1 in absurd (omega arith)

pub contains_either : {X : Type 0} (x y : X) (xs : List X) → Contains (x ∷ xs) y
    → (x ≡ y) ⊎ Contains xs y
contains_either x y xs h = by h.0 h.1 h.2
  where
    by : (k : ℕ) → k < length (x ∷ xs) → get_or (x ∷ xs) k y ≡ y → (x ≡ y) ⊎ Contains xs y
    by zero lt e = inl e
    by (suc k) lt e = inr (k, omega arith, e)

-- ---- tests
or_left : (a b : Bool) → a ≡ true → (a || b) ≡ true
or_left a b e = rw e refl

or_right : (a b : Bool) → b ≡ true → (a || b) ≡ true
or_right true b e = refl
or_right false b e = e

pub or_either : (a b : Bool) → (a || b) ≡ true → (a ≡ true) ⊎ (b ≡ true)
or_either true b e = inl refl
or_either false b e = inr e

-- ---- sets
pub in_front : (t : Ty) (us : List Ty) → is_in t (t ∷ us) ≡ true
in_front t us = or_left (same_type t t) (is_in t us) (type_refl t)

pub in_behind : (x t : Ty) (us : List Ty) → is_in x us ≡ true → is_in x (t ∷ us) ≡ true
in_behind x t us h = or_right (same_type x t) (is_in x us) h

pub front_or_behind : (x t : Ty) (us : List Ty) → is_in x (t ∷ us) ≡ true
    → (x ≡ t) ⊎ (is_in x us ≡ true)
front_or_behind x t us h = elim (or_either (same_type x t) (is_in x us) h) [
  | inl e ↦ inl (type_sound x t e)
  | inr e ↦ inr e
]

in_more : (x t : Ty) (us : List Ty) → is_in x us ≡ true → is_in x (us ++ t ∷ []) ≡ true
in_more x t [] h = absurd cc
in_more x t (u ∷ us) h = by (same_type x u) refl (in_more x t us)
  where
    by : (b : Bool) → same_type x u ≡ b → (is_in x us ≡ true → is_in x (us ++ t ∷ []) ≡ true)
        → (same_type x u || is_in x (us ++ t ∷ [])) ≡ true
    by true e rest = rw e refl
    by false e rest = rw e (rest (rw e at h))

in_last : (t : Ty) (us : List Ty) → is_in t (us ++ t ∷ []) ≡ true
in_last t [] = in_front t []
in_last t (u ∷ us) = in_behind t u (us ++ t ∷ []) (in_last t us)

in_either : (x t : Ty) (us : List Ty) → is_in x (us ++ t ∷ []) ≡ true
    → (is_in x us ≡ true) ⊎ (x ≡ t)
in_either x t [] h = elim (front_or_behind x t [] h) [ inl e ↦ inr e | inr e ↦ absurd cc ]
in_either x t (u ∷ us) h = by (in_either x t us)
  where
    by : (is_in x (us ++ t ∷ []) ≡ true → (is_in x us ≡ true) ⊎ (x ≡ t))
        → (is_in x (u ∷ us) ≡ true) ⊎ (x ≡ t)
    by rest = elim (or_either (same_type x u) (is_in x (us ++ t ∷ [])) h) [
      | inl e ↦ inl (or_left (same_type x u) (is_in x us) e)
      | inr e ↦ elim (rest e) [ inl f ↦ inl (in_behind x u us f) | inr f ↦ inr f ]
    ]

pub put_keeps : (x t : Ty) (us : List Ty) → is_in x us ≡ true → is_in x (put t us) ≡ true
put_keeps x t us h = by (is_in t us)
  where
    by : (b : Bool) → is_in x (if b then us else us ++ t ∷ []) ≡ true
    by true = h
    by false = in_more x t us h

pub put_has : (t : Ty) (us : List Ty) → is_in t (put t us) ≡ true
put_has t us = by (is_in t us) refl
  where
    by : (b : Bool) → is_in t us ≡ b → is_in t (if b then us else us ++ t ∷ []) ≡ true
    by true e = e
    by false e = in_last t us

pub put_either : (x t : Ty) (us : List Ty) → is_in x (put t us) ≡ true
    → (is_in x us ≡ true) ⊎ (x ≡ t)
put_either x t us h = by (is_in t us) h
  where
    by : (b : Bool) → is_in x (if b then us else us ++ t ∷ []) ≡ true
        → (is_in x us ≡ true) ⊎ (x ≡ t)
    by true e = inl e
    by false e = in_either x t us e
