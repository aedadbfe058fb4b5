-- A table in the order of first use.
use Rattle.std.proofs.Common.{◌≡◌, ℕ, zero, suc, ◌+◌, ◌<◌, ◌≤◌, min, List, [], ◌∷◌, ◌++◌, length, take, Bool, true, false, cond, eqb, ltb, not, Some, Ok, Err, refl, sym, ap, ◌∙◌, inl, inr, arith}
use Rattle.std.specs.Prelude.{slice_get, ◌&&◌, ◌||◌, nat_eq}
use Rattle.std.specs.List.{list_any}
use Rattle.std.proofs.lemmas.Bool.{cases_lt, eqb-true, eq-eqb, lt-ltb, le-ltb}
use Rattle.std.proofs.lemmas.List.{take_more, length-append}
use Rattle.std.proofs.lemmas.List.Sums.{prefix_len-le-length}
use Rattle.std.proofs.lemmas.List.Folds.{prefix_len-append}
use Rattle.std.proofs.lemmas.Option.{slice_get_within, get_or_from_slice_get}
use Rattle.ui_strpos.specs.declared.target.Target.{Target}
use Rattle.ui_strpos.specs.declared.fault.Cause.TheVariants.{TableOrder}
use Rattle.ui_strpos.specs.Items.{is_target, place_in}
use Rattle.ui_strpos.specs.Reading.{fault, added}

-- the entry at each place is first there
abbrev pub IsDistinct : List Target → Type 0
IsDistinct table = (k : ℕ) (t : Target) → slice_get table k ≡ Some t → place_in table t ≡ k

both_true : (a b : Bool) → (a && b) ≡ true → (a ≡ true) × (b ≡ true)
both_true true b e = (refl, e)
both_true false b e = absurd cc

same_target : (a b : Target) → a.section ≡ b.section → a.index ≡ b.index → a ≡ b
same_target a b p q = ap (λ (x : ℕ). record { section = x; index = a.index }) p ∙ ap (λ (x : ℕ). record { section = b.section; index = x }) q

pub is_target_true : (a b : Target) → is_target a b ≡ true → a ≡ b
is_target_true a b e =
    let p = both_true (nat_eq a.section b.section) (nat_eq a.index b.index) e in
    same_target a b (eqb-true a.section b.section p.0) (eqb-true a.index b.index p.1)

pub is_target_refl : (a : Target) → is_target a a ≡ true
is_target_refl a = rw (eq-eqb a.section a.section refl, eq-eqb a.index a.index refl) refl

pub place_within : (table : List Target) (t : Target) → place_in table t ≤ length table
place_within table t = prefix_len-le-length (λ x. not (is_target t x)) table

-- a table has a target exactly where its place is below the length
has_at : (x : Target) (xs : List Target) (t : Target) (b : Bool) → list_any (is_target t) xs ≡ ltb (place_in xs t) (length xs) → (b || list_any (is_target t) xs) ≡ ltb (cond (not b) (1 + place_in xs t) 0) (suc (length xs))
has_at x xs t true rest = sym (lt-ltb 0 (suc (length xs)) (omega arith))
has_at x xs t false rest =
    rest ∙ elim (cases_lt (place_in xs t) (length xs)) [
      | inl lt ↦ lt-ltb (place_in xs t) (length xs) lt ∙ sym (lt-ltb (1 + place_in xs t) (suc (length xs)) (omega arith))
      | inr le ↦ le-ltb (place_in xs t) (length xs) le ∙ sym (le-ltb (1 + place_in xs t) (suc (length xs)) (omega arith))
    ]

pub has_target : (table : List Target) (t : Target) → list_any (is_target t) table ≡ ltb (place_in table t) (length table)
has_target [] t = sym (le-ltb 0 0 (omega arith))
has_target (x ∷ xs) t = has_at x xs t (is_target t x) (has_target xs t)

-- a new entry
pub added_new : (table : List Target) (place : ℕ) (t : Target) (b : Bool) (new : List Target) → b ≡ not (list_any (is_target t) table) → new ≡ cond (list_any (is_target t) table) table (table ++ t ∷ []) → b ≡ true → (added table place t ≡ Ok new) × (new ≡ table ++ t ∷ [])
added_new table place t b new new_is entries e = at (list_any (is_target t) table) refl
  where
    at : (h : Bool) → list_any (is_target t) table ≡ h → (added table place t ≡ Ok new) × (new ≡ table ++ t ∷ [])
    at true h = absurd (cc)
    at false h =
        let is : new ≡ table ++ t ∷ [] = entries ∙ rw h refl in
        (rw (sym (has_target table t) ∙ h) (ap (λ (xs : List Target). Ok xs) (sym is)), is)

pub added_again : (table : List Target) (place : ℕ) (t : Target) (b : Bool) → b ≡ not (list_any (is_target t) table) → b ≡ false → added table place t ≡ Err (fault place TableOrder)
added_again table place t b new_is e = at (list_any (is_target t) table) refl
  where
    at : (h : Bool) → list_any (is_target t) table ≡ h → added table place t ≡ Err (fault place TableOrder)
    at true h = rw (sym (has_target table t) ∙ h) refl
    at false h = absurd (cc)

-- what is found is there
found_at : (x : Target) (xs : List Target) (t : Target) (b : Bool) → is_target t x ≡ b → (place_in xs t < length xs → slice_get xs (place_in xs t) ≡ Some t) → cond (not b) (1 + place_in xs t) 0 < suc (length xs) → slice_get (x ∷ xs) (cond (not b) (1 + place_in xs t) 0) ≡ Some t
found_at x xs t true e rest lt = ap (λ (y : Target). Some y) (sym (is_target_true t x e))
found_at x xs t false e rest lt =
    let one : 1 + place_in xs t ≡ suc (place_in xs t) = omega arith in
    rw one (rest (omega arith))

pub found : (table : List Target) (t : Target) → place_in table t < length table → slice_get table (place_in table t) ≡ Some t
found [] t lt = absurd (omega arith)
found (x ∷ xs) t lt = found_at x xs t (is_target t x) refl (found xs t) lt

-- in a front of the table
pub place_take : (u : ℕ) (table : List Target) (t : Target) → u ≤ length table → place_in (take u table) t ≡ min u (place_in table t)
place_take zero table t le = omega arith
place_take (suc u) [] t le = absurd (omega arith)
place_take (suc u) (x ∷ xs) t le =
    elim (is_target t x) as (λ (b : Bool). cond (not b) (1 + place_in (take u xs) t) 0 ≡ min (suc u) (cond (not b) (1 + place_in xs t) 0)) [
      | true ↦ omega arith
      | false ↦ rw (place_take u xs t (omega arith)) (omega arith)
    ]

pub get_append_left : (xs ys : List Target) (k : ℕ) → k < length xs → slice_get (xs ++ ys) k ≡ slice_get xs k
get_append_left [] ys k lt = absurd (omega arith)
get_append_left (x ∷ xs) ys zero lt = refl
get_append_left (x ∷ xs) ys (suc k) lt = get_append_left xs ys k (omega arith)

pub get_append_seam : (xs : List Target) (y : Target) (ys : List Target) → slice_get (xs ++ y ∷ ys) (length xs) ≡ Some y
get_append_seam [] y ys = refl
get_append_seam (x ∷ xs) y ys = get_append_seam xs y ys

pub take_next : (table : List Target) (k : ℕ) (t : Target) → slice_get table k ≡ Some t → take (k + 1) table ≡ take k table ++ t ∷ []
take_next table k t e = take_more table k t (slice_get_within table k t e) ∙ ap (λ (x : Target). take k table ++ x ∷ []) (get_or_from_slice_get table k t t e)

pub place_append_old : (xs ys : List Target) (t : Target) → place_in xs t < length xs → place_in (xs ++ ys) t ≡ place_in xs t
place_append_old xs ys t lt =
    let no : eqb (place_in xs t) (length xs) ≡ false = grind arith in
    prefix_len-append (λ x. not (is_target t x)) xs ys ∙ rw no refl

pub place_append_new : (xs : List Target) (t : Target) → place_in xs t ≡ length xs → place_in (xs ++ t ∷ []) t ≡ length xs
place_append_new xs t e =
    prefix_len-append (λ x. not (is_target t x)) xs (t ∷ []) ∙ rw (eq-eqb (place_in xs t) (length xs) e, is_target_refl t) (omega arith)

-- a new target at the end keeps the entries apart
pub distinct_push : (xs : List Target) (t : Target) → IsDistinct xs → place_in xs t ≡ length xs → IsDistinct (xs ++ t ∷ [])
distinct_push xs t h new k u e =
    elim (cases_lt k (length xs)) [
      | inl lt ↦
          let there : slice_get xs k ≡ Some u = sym (get_append_left xs (t ∷ []) k lt) ∙ e in
          let at : place_in xs u ≡ k = h k u there in
          place_append_old xs (t ∷ []) u (omega arith) ∙ at
      | inr le ↦
          let last : k ≡ length xs = (let w = slice_get_within (xs ++ t ∷ []) k u e in omega (arith, w, length-append xs (t ∷ []))) in
          let is : u ≡ t = (let f : Some u ≡ Some t = sym e ∙ ap (slice_get (xs ++ t ∷ [])) last ∙ get_append_seam xs t [] in cc) in
          rw (is, last) (place_append_new xs t new)
    ]
