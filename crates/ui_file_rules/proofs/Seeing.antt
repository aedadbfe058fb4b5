use Rattle.std.proofs.Common.{◌≡◌, inl, inr, ℕ, zero, suc, ◌+◌, ◌<◌, ◌≤◌, Bool, true, false, cond, Decides, List, [], ◌∷◌, ◌++◌, length, take, get_or, refl, sym, ap, subst, ◌∙◌, arith, Bor, Some, None}
use Rattle.std.specs.Prelude.{◌||◌, not}
use Rattle.std.specs.List.{list_any}
use Rattle.std.proofs.lemmas.List.{take_more, get_or-take, length-take-le, map-append}
use Rattle.std.proofs.lemmas.Bool.{cases_lt}
use Rattle.indexmap.specs.IndexSet.{insert_key}
use Rattle.ui_file.specs.Rules.{IsNew}
use Rattle.ui_file_rules.specs.First.{FirstOf}
use Rattle.ui_file_rules.specs.Seen.{seen_of, IsInserted}

-- the loop over a list: what was seen are the first i, each new
pub record AreSeen {T : Type 0} (xs keys : List T) (i : ℕ) : Type 0 where
  pub few : i ≤ length xs
  pub are : keys ≡ take i xs
  pub new : (d : T) (j : ℕ) → j < i → IsNew xs d j

-- ---- references

module _ {T : Type 0} (eq : T → T → Bool) where
  abbrev ref_eq : Bor T → Bor T → Bool
  ref_eq a b = eq a.now b.now

  any-seen : (ks : List (Bor T)) (x : Bor T) → list_any (ref_eq x) ks
      ≡ list_any (eq x.now) (seen_of ks)
  any-seen [] x = refl
  any-seen (k ∷ ks) x = ap (λ (b : Bool). eq x.now k.now || b) (any-seen ks x)

  seen-key : (ks : List (Bor T)) (x : Bor T) → seen_of (insert_key ref_eq ks x)
      ≡ insert_key eq (seen_of ks) x.now
  seen-key ks x = at (list_any (ref_eq x) ks)
      ∙ ap (λ (b : Bool). cond b (seen_of ks) (seen_of ks ++ x.now ∷ [])) (any-seen ks x)
    where
      at : (b : Bool) → seen_of (cond b ks (ks ++ x ∷ []))
          ≡ cond b (seen_of ks) (seen_of ks ++ x.now ∷ [])
      at true = refl
      at false = map-append (λ (r : Bor T). r.now) ks (x ∷ [])

  pub inserted : (old new : List (Bor T)) (x : Bor T) (was fresh : Bool) → was ≡ not fresh → fresh
      ≡ not (list_any (ref_eq x) old) → new ≡ insert_key ref_eq old x
      → IsInserted eq (seen_of old) (seen_of new) x.now was
  inserted old new x was fresh e f is = record {
    found = e ∙ twice (list_any (ref_eq x) old) fresh f ∙ any-seen old x;
    keys = ap seen_of is ∙ seen-key old x;
  }
    where
      twice : (b c : Bool) → c ≡ not b → not c ≡ b
      twice true c e = ap not e
      twice false c e = ap not e

  -- ---- what a set finds

  module _ (dec : (a b : T) → Decides (eq a b) (a ≡ b)) where
    any-true : (xs : List T) (x d : T) → list_any (eq x) xs ≡ true → (j : ℕ) × (j < length xs)
        × (get_or xs j d ≡ x)
    any-true [] x d e = absurd cc
    any-true (y ∷ xs) x d e = at (any-true xs x d) (eq x y) refl
      where
        at : (list_any (eq x) xs ≡ true → (j : ℕ) × (j < length xs) × (get_or xs j d ≡ x))
            → (b : Bool) → eq x y ≡ b → (j : ℕ) × (j < length (y ∷ xs))
            × (get_or (y ∷ xs) j d ≡ x)
        at rest true t = (0, omega arith, sym ((dec x y).0 t))
        at rest false t = let p = rest (sym (ap (λ (b : Bool). b || list_any (eq x) xs) t) ∙ e) in
            (suc p.0, omega (arith, p.1), p.2)

    any-false : (xs : List T) (x d : T) → list_any (eq x) xs ≡ false → (j : ℕ) → j < length xs
        → get_or xs j d ≡ x → ⊥
    any-false [] x d e j h is = absurd (omega arith)
    any-false (y ∷ xs) x d e j h is = at (any-false xs x d) (eq x y) refl j h is
      where
        at : (list_any (eq x) xs ≡ false → (j : ℕ) → j < length xs → get_or xs j d ≡ x → ⊥)
            → (b : Bool) → eq x y ≡ b → (j : ℕ) → j < length (y ∷ xs) → get_or (y ∷ xs) j d ≡ x
            → ⊥
        at rest true t j h is = let q : (true || list_any (eq x) xs)
            ≡ false = sym (ap (λ (b : Bool). b || list_any (eq x) xs) t) ∙ e in absurd cc
        at rest false t zero h is = let q : eq x y ≡ true = (dec x y).1 (sym is) in absurd cc
        at rest false t (suc j) h is = rest
            (sym (ap (λ (b : Bool). b || list_any (eq x) xs) t) ∙ e) j (omega arith) is

    pub none-seen : (xs keys : List T) → keys ≡ [] → AreSeen xs keys 0
    none-seen xs keys e = record { few = omega arith; are = e; new = λ d j h. absurd (omega arith) }

    here : (xs keys : List T) (i : ℕ) (x d : T) → i < length xs → x ≡ get_or xs i x → x
        ≡ get_or xs i d
    here xs keys i x d lt e = e ∙ defaults xs i lt
      where
        defaults : (xs : List T) (i : ℕ) → i < length xs → get_or xs i x ≡ get_or xs i d
        defaults [] i h = absurd (omega arith)
        defaults (y ∷ xs) zero h = refl
        defaults (y ∷ xs) (suc i) h = defaults xs i (omega arith)

    -- it was there: the first that is like one before it
    pub found-again : (xs keys new : List T) (i : ℕ) (x : T) → i < length xs → x ≡ get_or xs i x
        → AreSeen xs keys i → IsInserted eq keys new x true → (d : T)
        → FirstOf (IsNew xs d) (length xs) (Some i)
    found-again xs keys new i x lt e s is d =
        let p = any-true (take i xs) x d
        (sym (is.found ∙ ap (λ (ks : List T). list_any (eq x) ks) s.are)) in
        let few : length (take i xs) ≡ i = length-take-le i xs s.few in
        let less : p.0 < i = let q = p.1 in omega arith in (
          lt,
          (λ fresh. fresh p.0 less (sym (get_or-take i xs p.0 d less) ∙ p.2
              ∙ here xs keys i x d lt e)),
          λ k h. s.new d k h,
        )

    fresh-at : (xs keys : List T) (i : ℕ) (x d : T) → x ≡ get_or xs i d → AreSeen xs keys i
        → list_any (eq x) keys ≡ false → IsNew xs d i
    fresh-at xs keys i x d e s no_ j less same =
        let few : length (take i xs) ≡ i = length-take-le i xs s.few in
        any-false (take i xs) x d (sym (ap (λ (ks : List T). list_any (eq x) ks) s.are) ∙ no_) j
        (omega arith) (get_or-take i xs j d less ∙ same ∙ sym e)

    -- it wasn't there
    pub more-seen : (xs keys new : List T) (i : ℕ) (x : T) → i < length xs → x ≡ get_or xs i x
        → AreSeen xs keys i → IsInserted eq keys new x false → AreSeen xs new (i + 1)
    more-seen xs keys new i x lt e s is = record {
      few = omega arith;
      are =
          is.keys ∙ ap (λ (b : Bool). cond b keys (keys ++ x ∷ [])) (sym is.found)
          ∙ (λ a. s.are a ++ e a ∷ []) ∙ sym (take_more xs i x lt);
      new = λ d j h. elim (cases_lt j i) [
        | inl l ↦ s.new d j l
        | inr g ↦ (let same : i ≡ j = omega arith in subst (λ (n : ℕ). IsNew xs d n) same
            (fresh-at xs keys i x d (here xs keys i x d lt e) s (sym is.found)))
      ];
    }

    pub all-seen : (xs keys : List T) (i : ℕ) → length xs ≤ i → AreSeen xs keys i → (d : T)
        → FirstOf (IsNew xs d) (length xs) None
    all-seen xs keys i le s d = λ k h. s.new d k (omega arith)
