-- The laws of the order, for paths and for their numbers.
use Rattle.std.specs.Prelude.{◌≡◌, ℕ, zero, suc, ◌≤◌, ◌<◌, Bool, true, false, ◌&&◌, not, List, [], ◌∷◌, ◌++◌, length, Some, None, find, Decides, refl}
use Rattle.std.proofs.Common.{◌∙◌, ap, sym, subst, inl, inr, arith, append_assoc}
use Rattle.std.specs.List.{list_all}
use Rattle.std.proofs.lemmas.Bool.{or_left, or_right, and_parts, and_cases, true≢false, not-true, not-false, not_from_false, not_from_true, false_from_ne_true}
use Rattle.ui_order.specs.Steps.{has, and_then, is_ready, order_from, reaches, Leads, direct, onward}
use Rattle.ui_order.specs.StepLaws.{count, count_lt, has-self, has-append, split, list_all-has, one_fails, find-passes, find-none, none_found, leads_where_reached, reached_where_leads}

module _ {K : Type 0} (eq : K → K → Bool) (decides : (x y : K) → Decides (eq x y) (x ≡ y)) (imports : K → List K) (keys : List K) where
  -- a key that isn't among those before it, while its imports are
  pub record IsNext (before : List K) (p : K) : Type 0 where
    pub key : has eq keys p ≡ true
    pub new : has eq before p ≡ false
    pub imported : (q : K) → has eq (imports p) q ≡ true → has eq before q ≡ true

  -- each of the list is so
  abbrev pub IsOrder : List K → List K → Type 0
  IsOrder before [] = Unit {0}
  IsOrder before (p ∷ ps) = IsNext before p × IsOrder (before ++ p ∷ []) ps

  append_nil : (xs : List K) → xs ++ [] ≡ xs
  append_nil [] = refl
  append_nil (x ∷ xs) = ap (λ ys. x ∷ ys) (append_nil xs)

  order_push : (before taken : List K) (p : K) → IsOrder before taken → IsNext (before ++ taken) p → IsOrder before (taken ++ p ∷ [])
  order_push before [] p o n = (subst (λ xs. IsNext xs p) (append_nil before) n, tt)
  order_push before (x ∷ taken) p o n = (o.0, order_push (before ++ x ∷ []) taken p o.1 (subst (λ xs. IsNext xs p) (sym (append_assoc before (x ∷ []) taken)) n))

  order_at : (before front : List K) (p : K) (back : List K) → IsOrder before (front ++ p ∷ back) → IsNext (before ++ front) p
  order_at before [] p back o = subst (λ xs. IsNext xs p) (sym (append_nil before)) o.0
  order_at before (x ∷ front) p back o = subst (λ xs. IsNext xs p) (append_assoc before (x ∷ []) front) (order_at (before ++ x ∷ []) front p back o.1)

  pub order_before : (taken front : List K) (p : K) (back : List K) → IsOrder [] taken → taken ≡ front ++ p ∷ back → IsNext front p
  order_before taken front p back o e = order_at [] front p back (subst (λ xs. IsOrder [] xs) e o)

  -- what is ready comes next
  pub ready_next : (taken : List K) (p : K) → has eq keys p ≡ true → is_ready eq imports taken p ≡ true → IsNext taken p
  ready_next taken p k r =
      let both = and_parts (not (has eq taken p)) (list_all (has eq taken) (imports p)) r in
      record { key = k; new = not-true (has eq taken p) both.0; imported = λ q h. list_all-has eq decides (has eq taken) (imports p) q both.1 h }

  pub order_more : (taken : List K) (p : K) → IsOrder [] taken → find (is_ready eq imports taken) keys ≡ Some p → IsOrder [] (taken ++ p ∷ [])
  order_more taken p o f =
      let r = find-passes eq decides (is_ready eq imports taken) keys p f in
      order_push [] taken p o (ready_next taken p r.1 r.0)

  pub order_from-IsOrder : (n : ℕ) (taken : List K) → IsOrder [] taken → IsOrder [] (order_from eq imports n keys taken)
  order_from-IsOrder zero taken o = o
  order_from-IsOrder (suc n) taken o =
      elim (find (is_ready eq imports taken) keys) as (λ r. find (is_ready eq imports taken) keys ≡ r → IsOrder [] (and_then (order_from eq imports n keys) taken r)) [
        | None ↦ λ e. o
        | Some p ↦ λ e. order_from-IsOrder n (taken ++ p ∷ []) (order_more taken p o e)
      ] refl

  -- how many keys are not taken
  abbrev pub undone : List K → ℕ
  undone taken = count (λ k. not (has eq taken k)) keys

  still_undone : (taken : List K) (p x : K) → not (has eq (taken ++ p ∷ []) x) ≡ true → not (has eq taken x) ≡ true
  still_undone taken p x h =
      not_from_false (has eq taken x) (elim (has eq taken x) as (λ b. has eq taken x ≡ b → b ≡ false) [
        | true ↦ λ e. absurd (true≢false (sym (has-append eq decides taken (p ∷ []) x ∙ or_left (has eq taken x) (has eq (p ∷ []) x) e) ∙ not-true (has eq (taken ++ p ∷ []) x) h))
        | false ↦ λ e. refl
      ] refl)

  pub has-push : (taken : List K) (p : K) → has eq (taken ++ p ∷ []) p ≡ true
  has-push taken p = has-append eq decides taken (p ∷ []) p ∙ or_right (has eq taken p) (has eq (p ∷ []) p) (has-self eq decides p [])

  pub undone-push : (taken : List K) (p : K) → has eq keys p ≡ true → has eq taken p ≡ false → undone (taken ++ p ∷ []) < undone taken
  undone-push taken p k new = count_lt eq decides (λ x. not (has eq (taken ++ p ∷ []) x)) (λ x. not (has eq taken x)) keys p (still_undone taken p) k
      (not_from_true (has eq (taken ++ p ∷ []) p) (has-push taken p)) (not_from_false (has eq taken p) new)

  pub some_undone : (taken : List K) (p : K) → has eq keys p ≡ true → has eq taken p ≡ false → 0 < undone taken
  some_undone taken p k new = let less = undone-push taken p k new in omega arith

  not_ready : (taken : List K) (q : K) → has eq taken q ≡ true → is_ready eq imports taken q ≡ false
  not_ready taken q h = ap (λ b. not b && list_all (has eq taken) (imports q)) h

  -- with as many steps as keys are left, nothing is ready at the end
  pub settles : (n : ℕ) (taken : List K) → undone taken ≤ n → find (is_ready eq imports (order_from eq imports n keys taken)) keys ≡ None
  settles zero taken u = none_found eq decides (is_ready eq imports taken) keys (λ q k.
      elim (has eq taken q) as (λ b. has eq taken q ≡ b → is_ready eq imports taken q ≡ false) [
        | true ↦ λ e. not_ready taken q e
        | false ↦ λ e. absurd (let some = some_undone taken q k e in omega arith)
      ] refl)
  settles (suc n) taken u =
      elim (find (is_ready eq imports taken) keys) as (λ r. find (is_ready eq imports taken) keys ≡ r → find (is_ready eq imports (and_then (order_from eq imports n keys) taken r)) keys ≡ None) [
        | None ↦ λ e. e
        | Some p ↦ λ e.
            let r = find-passes eq decides (is_ready eq imports taken) keys p e in
            let next = ready_next taken p r.1 r.0 in
            settles n (taken ++ p ∷ []) (let less = undone-push taken p r.1 next.new in omega arith)
      ] refl

  leads_on : (p q r : K) → Leads eq imports p q → Leads eq imports q r → Leads eq imports p r
  leads_on p q r l (direct h) = onward l h
  leads_on p q r l (onward {q = s} m h) = onward (leads_on p q s l m) h

  -- what stands before a path in the order is all that it leads to
  lead_before : (taken : List K) → IsOrder [] taken → (p q : K) → Leads eq imports p q → (front back : List K) → taken ≡ front ++ p ∷ back → has eq front q ≡ true
  lead_before taken o p q (direct h) front back e = (order_before taken front p back o e).imported q h
  lead_before taken o p q (onward {q = r} l h) front back e =
      let s = split eq decides front r (lead_before taken o p r l front back e) in
      let parts : taken ≡ s.0 ++ r ∷ (s.1.0 ++ p ∷ back) = e ∙ ap (λ xs. xs ++ p ∷ back) s.1.1 ∙ append_assoc s.0 (r ∷ s.1.0) (p ∷ back) in
      let early : has eq s.0 q ≡ true = (order_before taken s.0 r (s.1.0 ++ p ∷ back) o parts).imported q h in
      ap (λ xs. has eq xs q) s.1.1 ∙ has-append eq decides s.0 (r ∷ s.1.0) q ∙ or_left (has eq s.0 q) (has eq (r ∷ s.1.0) q) early

  -- no order has a path on a cycle
  pub order_acyclic : (taken : List K) (p : K) → IsOrder [] taken → Leads eq imports p p → has eq taken p ≡ false
  order_acyclic taken p o l = false_from_ne_true (has eq taken p) (λ h.
      let s = split eq decides taken p h in
      true≢false (sym (lead_before taken o p p l s.0 s.1.0 s.1.1) ∙ (order_before taken s.0 p s.1.0 o s.1.1).new))

  module _ (grounded : (p q : K) → has eq (imports p) q ≡ true → has eq keys p ≡ true) (closed : (p q : K) → has eq (imports p) q ≡ true → has eq keys q ≡ true) (acyclic : (p : K) → Leads eq imports p p → ⊥) where
    led_key : (p q : K) → Leads eq imports p q → has eq keys q ≡ true
    led_key p q (direct h) = closed p q h
    led_key p q (onward {q = r} l h) = closed r q h

    reaches_all : K → K → Bool
    reaches_all p = reaches eq imports (length keys) (imports p)

    -- along an import fewer paths are ahead
    fewer : (p q : K) → has eq (imports p) q ≡ true → count (reaches_all q) keys < count (reaches_all p) keys
    unfolding reaches_all
    fewer p q h = count_lt eq decides (reaches_all q) (reaches_all p) keys q
        (λ x r.
        let l = leads_where_reached eq decides imports q (length keys) x r in
        reached_where_leads eq decides imports keys grounded p x (leads_on p q x (direct h) l) (led_key q x l))
        (closed p q h)
        (false_from_ne_true (reaches_all q q) (λ r. acyclic q (leads_where_reached eq decides imports q (length keys) q r)))
        (reached_where_leads eq decides imports keys grounded p q (direct h) (closed p q h))

    untaken_import : (taken : List K) (p : K) → find (is_ready eq imports taken) keys ≡ None → has eq keys p ≡ true → has eq taken p ≡ false → (q : K) × ((has eq (imports p) q ≡ true) × (has eq taken q ≡ false))
    untaken_import taken p none k new = elim (and_cases (not (has eq taken p)) (list_all (has eq taken) (imports p)) (find-none eq decides (is_ready eq imports taken) keys p none k)) [
      | inl e ↦ absurd (true≢false (sym (not-false (has eq taken p) e) ∙ new))
      | inr e ↦ one_fails eq decides (has eq taken) (imports p) e
    ]

    descends : (n : ℕ) (taken : List K) (p : K) → find (is_ready eq imports taken) keys ≡ None → count (reaches_all p) keys ≤ n → has eq keys p ≡ true → has eq taken p ≡ false → ⊥
    descends zero taken p none c k new =
        let q = untaken_import taken p none k new in
        let less = fewer p q.0 q.1.0 in
        let l : count (reaches_all p) keys ≤ 0 = c in
        absurd (omega arith)
    descends (suc n) taken p none c k new =
        let q = untaken_import taken p none k new in
        let less = fewer p q.0 q.1.0 in
        let l : count (reaches_all p) keys ≤ suc n = c in
        descends n taken q.0 none (omega arith) (closed p q.0 q.1.0) q.1.1

    -- where nothing is ready, all is taken
    pub all_taken : (taken : List K) (p : K) → find (is_ready eq imports taken) keys ≡ None → has eq keys p ≡ true → has eq taken p ≡ true
    all_taken taken p none k =
        elim (has eq taken p) as (λ b. has eq taken p ≡ b → b ≡ true) [ true ↦ λ e. refl | false ↦ λ e. absurd (descends (count (reaches_all p) keys) taken p none (omega arith) k e) ] refl
