-- A map whose keys are among those of another has no more of them.
use Rattle.std.proofs.Common.{◌≡◌, ◌∙◌, ap, sym, refl, ℕ, zero, suc, ◌-◌, ◌≤◌, length, Bool, true, false, cond, List, [], ◌∷◌, map, Option, None, arith}
use Rattle.std.specs.Prelude.{is_some, ◌||◌}
use Rattle.std.specs.List.{list_any}
use Rattle.std.specs.Ordering.{nat_cmp}
use Rattle.std.specs.Cmp.{eq_by_cmp_equiv}
use Rattle.std.specs.Cmp.Lexicographic.{slice_cmp, nat_list_cmp_total}
use Rattle.std.specs.FinMap.{FinMap, get, remove, contains_key, len, entries, contains_key-keys, get-remove, len-remove, len-entries, empty_of_len, get-empty}
use Rattle.ui_build.specs.Plan.{Text}
use Rattle.ui_build.proofs.Keeping.{same_name}

abbrev Map : Type 0 → Type 0
Map X = FinMap (slice_cmp nat_cmp) X

abbrev IsWithin : {X Y : Type 0} → Map X → Map Y → Type 0
IsWithin m n = (q : Text) → contains_key m q ≡ true → contains_key n q ≡ true

first_key : {X : Type 0} (es : List (Text × X)) → length es ≡ 0 → es ≡ []
first_key [] e = refl
first_key (x ∷ xs) e = absurd (omega (arith, e))

-- a map that isn't empty has a key
some_key : {X : Type 0} (k : ℕ) (es : List (Text × X)) → length es ≡ suc k → (q : Text) × (list_any (same_name q) (map (λ e. e.0) es) ≡ true)
some_key k [] e = absurd (omega (arith, e))
some_key k (x ∷ xs) e = (x.0, ap (λ b. b || list_any (same_name x.0) (map (λ e. e.0) xs)) ((eq_by_cmp_equiv nat_list_cmp_total).refl x.0))

has_some : {X : Type 0} (n : Map X) (q : Text) → contains_key n q ≡ true → len n ≡ 0 → ⊥
has_some n q h e = absurd (none (sym (ap (λ m. is_some (get m q)) (empty_of_len n e) ∙ ap is_some (get-empty (slice_cmp nat_cmp) q)) ∙ h))
  where
    none : false ≡ true → ⊥
    none p = absurd cc

kept : {X : Type 0} (b : Bool) (o : Option X) → is_some (cond b None o) ≡ true → (b ≡ false) × (is_some o ≡ true)
kept true o e = absurd cc
kept false o e = (refl, e)

within_removed : {X Y : Type 0} (m : Map X) (n : Map Y) (k : Text) → IsWithin m n → IsWithin (remove m k) (remove n k)
within_removed m n k h = λ q there.
    let o = kept (same_name q k) (get m q) (ap is_some (sym (get-remove nat_list_cmp_total m k q)) ∙ there) in
    ap is_some (get-remove nat_list_cmp_total n k q) ∙ ap (λ b. is_some (cond b None (get n q))) o.0 ∙ h q o.1

removed_len : {X : Type 0} (m : Map X) (k : Text) → contains_key m k ≡ true → len (remove m k) ≡ len m - 1
removed_len m k h = len-remove nat_list_cmp_total m k ∙ ap (λ b. cond b (len m - 1) (len m)) h

by_length : {X Y : Type 0} (k : ℕ) (m : Map X) (n : Map Y) → len m ≡ k → IsWithin m n → k ≤ len n
by_length zero m n e h = omega arith
by_length (suc k) m n e h =
    let key = some_key k (entries m) (sym (len-entries m) ∙ e) in
    let there : contains_key m key.0 ≡ true = contains_key-keys m key.0 ∙ key.1 in
    let less : k ≤ len (remove n key.0) = by_length k (remove m key.0) (remove n key.0) (removed_len m key.0 there ∙ ap (λ l. l - 1) e ∙ one_less k) (within_removed m n key.0 h) in
    let shorter : len (remove n key.0) ≡ len n - 1 = removed_len n key.0 (h key.0 there) in
    let some : len n ≡ 0 → ⊥ = has_some n key.0 (h key.0 there) in
    bigger k (len n) (len (remove n key.0)) less shorter some
  where
    one_less : (a : ℕ) → suc a - 1 ≡ a
    one_less a = omega arith

    bigger : (a b l : ℕ) → a ≤ l → l ≡ b - 1 → (b ≡ 0 → ⊥) → suc a ≤ b
    bigger a zero l p q r = absurd (r refl)
    bigger a (suc b) l p q r = omega (arith, p, q)

pub len_within : {X Y : Type 0} (m : FinMap (slice_cmp nat_cmp) X) (n : FinMap (slice_cmp nat_cmp) Y) → ((q : Text) → contains_key m q ≡ true → contains_key n q ≡ true) → len m ≤ len n
len_within m n h = by_length (len m) m n refl h
