-- The laws of steps along imports, for paths and for their numbers.
use Rattle.std.specs.Prelude.{◌≡◌, ◌⊎◌, ℕ, zero, suc, ◌+◌, ◌-◌, ◌≤◌, ◌<◌, Bool, true, false, ◌&&◌, ◌||◌, cond, List, [], ◌∷◌, ◌++◌, length, Some, None, find, flat_map, Decides, refl}
use Rattle.std.proofs.Common.{◌∙◌, ap, sym, subst, inl, inr, arith}
use Rattle.std.specs.List.{list_all}
use Rattle.std.proofs.lemmas.Bool.{or_cases, or_left, or_right, and_parts, cases_lt, false≢true, true≢false}
use Rattle.ui_order.specs.Steps.{has, reaches, Leads, direct, onward}

-- how many pass a test
abbrev pub count : {K : Type 0} → (K → Bool) → List K → ℕ
count p [] = 0
count p (x ∷ xs) = cond (p x) 1 0 + count p xs

module _ {K : Type 0} where
  pub count_le : (p q : K → Bool) (xs : List K) → ((x : K) → p x ≡ true → q x ≡ true) → count p xs ≤ count q xs
  count_le p q [] h = omega arith
  count_le p q (x ∷ xs) h =
      let rest = count_le p q xs h in
      elim (p x) as (λ b. p x ≡ b → cond b 1 0 + count p xs ≤ cond (q x) 1 0 + count q xs) [
        | true ↦ λ e. subst (λ (b : Bool). 1 + count p xs ≤ cond b 1 0 + count q xs) (sym (h x e)) (omega arith)
        | false ↦ λ e. omega arith
      ] refl

  pub count_bound : (p : K → Bool) (xs : List K) → count p xs ≤ length xs
  count_bound p [] = omega arith
  count_bound p (x ∷ xs) =
      let rest = count_bound p xs in
      elim (p x) as (λ b. cond b 1 0 + count p xs ≤ suc (length xs)) [ true ↦ omega arith | false ↦ omega arith ]

  module _ (eq : K → K → Bool) (decides : (x y : K) → Decides (eq x y) (x ≡ y)) where
    pub has-self : (x : K) (xs : List K) → has eq (x ∷ xs) x ≡ true
    has-self x xs = or_left (eq x x) (has eq xs x) ((decides x x).1 refl)

    pub has-append : (xs ys : List K) (q : K) → has eq (xs ++ ys) q ≡ (has eq xs q || has eq ys q)
    has-append [] ys q = refl
    has-append (x ∷ xs) ys q = elim (eq q x) as (λ b. (b || has eq (xs ++ ys) q) ≡ ((b || has eq xs q) || has eq ys q)) [ true ↦ refl | false ↦ has-append xs ys q ]

    -- a key that passes the larger test alone counts
    pub count_lt : (p q : K → Bool) (xs : List K) (y : K) → ((x : K) → p x ≡ true → q x ≡ true) → has eq xs y ≡ true → p y ≡ false → q y ≡ true → count p xs < count q xs
    count_lt p q [] y h i out within = absurd (false≢true i)
    count_lt p q (x ∷ xs) y h i out within =
        elim (or_cases (eq y x) (has eq xs y) i) [
          | inl e ↦
              let same : y ≡ x = (decides y x).0 e in
              let rest = count_le p q xs h in
              let np : p x ≡ false = subst (λ z. p z ≡ false) same out in
              let yq : q x ≡ true = subst (λ z. q z ≡ true) same within in
              subst (λ (b : Bool). cond b 1 0 + count p xs < cond (q x) 1 0 + count q xs) (sym np)
              (subst (λ (b : Bool). 0 + count p xs < cond b 1 0 + count q xs) (sym yq) (omega arith))
          | inr e ↦
              let rest = count_lt p q xs y h e out within in
              elim (p x) as (λ b. p x ≡ b → cond b 1 0 + count p xs < cond (q x) 1 0 + count q xs) [
                | true ↦ λ t. subst (λ (b : Bool). 1 + count p xs < cond b 1 0 + count q xs) (sym (h x t)) (omega arith)
                | false ↦ λ t. omega arith
              ] refl
        ]

    -- where both tests count the same, they pass the same keys
    pub count_same : (p q : K → Bool) (xs : List K) (y : K) → ((x : K) → p x ≡ true → q x ≡ true) → count q xs ≤ count p xs → has eq xs y ≡ true → q y ≡ true → p y ≡ true
    count_same p q xs y h c i within =
        elim (p y) as (λ b. p y ≡ b → b ≡ true) [ true ↦ λ e. refl | false ↦ λ e. absurd (let lt = count_lt p q xs y h i e within in omega arith) ] refl

    pub count_full : (p : K → Bool) (xs : List K) (y : K) → length xs ≤ count p xs → has eq xs y ≡ true → p y ≡ true
    count_full p xs y c i =
        elim (p y) as (λ b. p y ≡ b → b ≡ true) [ true ↦ λ e. refl | false ↦ λ e. absurd (let lt = count_lt p (λ _. true) xs y (λ _ _. refl) i e refl in let le = count_bound (λ _. true) xs in omega arith) ] refl

    -- an element of a list stands between two parts
    pub split : (xs : List K) (q : K) → has eq xs q ≡ true → (before : List K) × ((after : List K) × (xs ≡ before ++ q ∷ after))
    split [] q h = absurd (false≢true h)
    split (x ∷ xs) q h =
        elim (or_cases (eq q x) (has eq xs q) h) [
          | inl e ↦ ([], (xs, ap (λ y. y ∷ xs) (sym ((decides q x).0 e))))
          | inr e ↦ let s = split xs q e in (x ∷ s.0, (s.1.0, ap (λ ys. x ∷ ys) s.1.1))
        ]

    pub list_all-has : (t : K → Bool) (xs : List K) (q : K) → list_all t xs ≡ true → has eq xs q ≡ true → t q ≡ true
    list_all-has t [] q a h = absurd (false≢true h)
    list_all-has t (x ∷ xs) q a h =
        let both = and_parts (t x) (list_all t xs) a in
        elim (or_cases (eq q x) (has eq xs q) h) [
          | inl e ↦ subst (λ y. t y ≡ true) (sym ((decides q x).0 e)) both.0
          | inr e ↦ list_all-has t xs q both.1 e
        ]

    -- one that fails, where not all pass
    pub one_fails : (t : K → Bool) (xs : List K) → list_all t xs ≡ false → (q : K) × ((has eq xs q ≡ true) × (t q ≡ false))
    one_fails t [] a = absurd (true≢false a)
    one_fails t (x ∷ xs) a =
        elim (t x) as (λ b. t x ≡ b → (b && list_all t xs) ≡ false → (q : K) × ((has eq (x ∷ xs) q ≡ true) × (t q ≡ false))) [
          | true ↦ λ e a'. let r = one_fails t xs a' in (r.0, (or_right (eq r.0 x) (has eq xs r.0) r.1.0, r.1.1))
          | false ↦ λ e a'. (x, (has-self x xs, e))
        ] refl a

    pub all_pass : (t : K → Bool) (xs : List K) → ((q : K) → has eq xs q ≡ true → t q ≡ true) → list_all t xs ≡ true
    all_pass t xs h = elim (list_all t xs) as (λ b. list_all t xs ≡ b → b ≡ true) [ true ↦ λ e. refl | false ↦ λ e. let r = one_fails t xs e in absurd (true≢false (sym (h r.0 r.1.0) ∙ r.1.1)) ] refl

    -- what `find` finds
    pub find-passes : (t : K → Bool) (xs : List K) (p : K) → find t xs ≡ Some p → (t p ≡ true) × (has eq xs p ≡ true)
    find-passes t [] p e = cc
    find-passes t (x ∷ xs) p e =
        elim (t x) as (λ b. t x ≡ b → cond b (Some x) (find t xs) ≡ Some p → (t p ≡ true) × (has eq (x ∷ xs) p ≡ true)) [
          | true ↦ λ tx s. let same : x ≡ p = cc in (subst (λ y. t y ≡ true) same tx, subst (λ y. has eq (x ∷ xs) y ≡ true) same (has-self x xs))
          | false ↦ λ tx s. let r = find-passes t xs p s in (r.0, or_right (eq p x) (has eq xs p) r.1)
        ] refl e

    pub find-none : (t : K → Bool) (xs : List K) (q : K) → find t xs ≡ None → has eq xs q ≡ true → t q ≡ false
    find-none t [] q e h = absurd (false≢true h)
    find-none t (x ∷ xs) q e h =
        elim (t x) as (λ b. t x ≡ b → cond b (Some x) (find t xs) ≡ None → t q ≡ false) [
          | true ↦ λ tx s. cc
          | false ↦ λ tx s. elim (or_cases (eq q x) (has eq xs q) h) [
            | inl i ↦ subst (λ y. t y ≡ false) (sym ((decides q x).0 i)) tx
            | inr i ↦ find-none t xs q s i
          ]
        ] refl e

    pub none_found : (t : K → Bool) (xs : List K) → ((q : K) → has eq xs q ≡ true → t q ≡ false) → find t xs ≡ None
    none_found t xs h = elim (find t xs) as (λ o. find t xs ≡ o → o ≡ None) [ None ↦ λ e. refl | Some p ↦ λ e. let r = find-passes t xs p e in absurd (true≢false (sym r.0 ∙ h p r.1)) ] refl

cases_more : (m n : ℕ) → (n ≤ m) ⊎ (m < n)
cases_more m n = elim (cases_lt m n) [ inl l ↦ inr l | inr g ↦ inl g ]

-- ---- steps
module _ {K : Type 0} (eq : K → K → Bool) (decides : (x y : K) → Decides (eq x y) (x ≡ y)) (imports : K → List K) where
  has-flat_map : (ps : List K) (p q : K) → has eq ps p ≡ true → has eq (imports p) q ≡ true → has eq (flat_map imports ps) q ≡ true
  has-flat_map [] p q h k = absurd (false≢true h)
  has-flat_map (x ∷ ps) p q h k =
      has-append eq decides (imports x) (flat_map imports ps) q
      ∙ elim (or_cases (eq p x) (has eq ps p) h) [
        | inl e ↦ or_left (has eq (imports x) q) (has eq (flat_map imports ps) q) (subst (λ y. has eq (imports y) q ≡ true) ((decides p x).0 e) k)
        | inr e ↦ or_right (has eq (imports x) q) (has eq (flat_map imports ps) q) (has-flat_map ps p q e k)
      ]

  from_flat_map : (ps : List K) (q : K) → has eq (flat_map imports ps) q ≡ true → (p : K) × ((has eq ps p ≡ true) × (has eq (imports p) q ≡ true))
  from_flat_map [] q h = absurd (false≢true h)
  from_flat_map (x ∷ ps) q h =
      elim (or_cases (has eq (imports x) q) (has eq (flat_map imports ps) q) (sym (has-append eq decides (imports x) (flat_map imports ps) q) ∙ h)) [
        | inl e ↦ (x, (has-self eq decides x ps, e))
        | inr e ↦ let r = from_flat_map ps q e in (r.0, (or_right (eq r.0 x) (has eq ps r.0) r.1.0, r.1.1))
      ]

  -- what is reached from paths that p leads to, p leads to
  reached_leads : (p : K) (n : ℕ) (ps : List K) (q : K) → ((r : K) → has eq ps r ≡ true → Leads eq imports p r) → reaches eq imports n ps q ≡ true → Leads eq imports p q
  reached_leads p zero ps q lead h = lead q h
  reached_leads p (suc n) ps q lead h =
      elim (or_cases (has eq ps q) (reaches eq imports n (flat_map imports ps) q) h) [
        | inl e ↦ lead q e
        | inr e ↦ reached_leads p n (flat_map imports ps) q (λ r i. let s = from_flat_map ps r i in onward (lead s.0 s.1.0) s.1.1) e
      ]

  pub leads_where_reached : (p : K) (n : ℕ) (q : K) → reaches eq imports n (imports p) q ≡ true → Leads eq imports p q
  leads_where_reached p n q h = reached_leads p n (imports p) q (λ r i. direct i) h

  reaches-start : (n : ℕ) (ps : List K) (q : K) → has eq ps q ≡ true → reaches eq imports n ps q ≡ true
  reaches-start zero ps q h = h
  reaches-start (suc n) ps q h = or_left (has eq ps q) (reaches eq imports n (flat_map imports ps) q) h

  reaches-step : (n : ℕ) (ps : List K) (q r : K) → reaches eq imports n ps q ≡ true → has eq (imports q) r ≡ true → reaches eq imports (suc n) ps r ≡ true
  reaches-step zero ps q r h k = or_right (has eq ps r) (has eq (flat_map imports ps) r) (has-flat_map ps q r h k)
  reaches-step (suc n) ps q r h k =
      or_right (has eq ps r) (reaches eq imports (suc n) (flat_map imports ps) r)
      (elim (or_cases (has eq ps q) (reaches eq imports n (flat_map imports ps) q) h) [
        | inl e ↦ reaches-start (suc n) (flat_map imports ps) r (has-flat_map ps q r e k)
        | inr e ↦ reaches-step n (flat_map imports ps) q r e k
      ])

  reaches-more : (n : ℕ) (ps : List K) (q : K) → reaches eq imports n ps q ≡ true → reaches eq imports (suc n) ps q ≡ true
  reaches-more zero ps q h = or_left (has eq ps q) (has eq (flat_map imports ps) q) h
  reaches-more (suc n) ps q h =
      elim (or_cases (has eq ps q) (reaches eq imports n (flat_map imports ps) q) h) [
        | inl e ↦ or_left (has eq ps q) (reaches eq imports (suc n) (flat_map imports ps) q) e
        | inr e ↦ or_right (has eq ps q) (reaches eq imports (suc n) (flat_map imports ps) q) (reaches-more n (flat_map imports ps) q e)
      ]

  reaches-many : (d n : ℕ) (ps : List K) (q : K) → reaches eq imports n ps q ≡ true → reaches eq imports (d + n) ps q ≡ true
  reaches-many zero n ps q h = subst (λ m. reaches eq imports m ps q ≡ true) (let e : n ≡ 0 + n = omega arith in e) h
  reaches-many (suc d) n ps q h = subst (λ m. reaches eq imports m ps q ≡ true) (let e : suc (d + n) ≡ suc d + n = omega arith in e) (reaches-more (d + n) ps q (reaches-many d n ps q h))

  -- Whoever has imports is a key, so more steps reach no new key once one step more reaches none.
  module _ (keys : List K) (grounded : (p q : K) → has eq (imports p) q ≡ true → has eq keys p ≡ true) where
    IsFull : List K → ℕ → Type 0
    IsFull ps m = (q : K) → has eq keys q ≡ true → reaches eq imports (suc m) ps q ≡ true → reaches eq imports m ps q ≡ true

    fills : (ps : List K) (n : ℕ) → ((m : ℕ) × ((m ≤ n) × IsFull ps m)) ⊎ (n ≤ count (reaches eq imports n ps) keys)
    unfolding IsFull
    fills ps zero = inr (omega arith)
    fills ps (suc n) = elim (fills ps n) [
      | inl f ↦ inl (f.0, (let le = f.1.0 in omega arith, f.1.1))
      | inr c ↦ elim (cases_more (count (reaches eq imports n ps) keys) (count (reaches eq imports (suc n) ps) keys)) [
        | inl same ↦ inl (n, (omega arith, λ q k r. count_same eq decides (reaches eq imports n ps) (reaches eq imports (suc n) ps) keys q (reaches-more n ps) same k r))
        | inr more ↦ inr (omega arith)
      ]
    ]

    full_reaches : (p : K) (m : ℕ) → IsFull (imports p) m → (q : K) → Leads eq imports p q → has eq keys q ≡ true → reaches eq imports m (imports p) q ≡ true
    unfolding IsFull
    full_reaches p m full q (direct h) k = reaches-start m (imports p) q h
    full_reaches p m full q (onward {q = r} l h) k = full q k (reaches-step m (imports p) r q (full_reaches p m full r l (grounded r q h)) h)

    pub reached_where_leads : (p q : K) → Leads eq imports p q → has eq keys q ≡ true → reaches eq imports (length keys) (imports p) q ≡ true
    reached_where_leads p q l k = elim (fills (imports p) (length keys)) [
      | inl f ↦ subst (λ n. reaches eq imports n (imports p) q ≡ true) (let le = f.1.0 in let e : (length keys - f.0) + f.0 ≡ length keys = omega arith in e)
          (reaches-many (length keys - f.0) f.0 (imports p) q (full_reaches p f.0 f.1.1 q l k))
      | inr c ↦ count_full eq decides (reaches eq imports (length keys) (imports p)) keys q c k
    ]

    pub first_import : (p q : K) → Leads eq imports p q → has eq keys p ≡ true
    first_import p q (direct h) = grounded p q h
    first_import p q (onward {q = r} l h) = first_import p r l
