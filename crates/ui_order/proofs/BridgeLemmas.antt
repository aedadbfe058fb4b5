-- What is said of numbers is said of their paths.
use Rattle.std.specs.Prelude.{◌≡◌, ℕ, zero, suc, ◌<◌, Bool, true, false, cond, ◌&&◌, ◌||◌, not, nat_eq, List, [], ◌∷◌, ◌++◌, map, length, Option, Some, None, find, option_map, bytes_eq, refl}
use Rattle.std.proofs.Common.{◌∙◌, ap, sym, subst, arith, inl, inr}
use Rattle.std.specs.Ordering.{nat_cmp, is_eq}
use Rattle.std.specs.List.{list_all}
use Rattle.std.specs.List.Sorted.{IsStrictlySortedBy}
use Rattle.std.specs.Cmp.Lexicographic.{slice_cmp}
use Rattle.std.specs.FinMap.{keys}
use Rattle.std.proofs.lemmas.List.{map-append}
use Rattle.std.proofs.lemmas.List.FromFn.{fill_by_all}
use Rattle.std.proofs.lemmas.Map.Keys.{Less-from_sorted}
use Rattle.std.proofs.lemmas.Map.Text.{is_eq-slice_cmp}
use Rattle.std.proofs.lemmas.Slice.Eq.{bytes_eq-Decides}
use Rattle.std.proofs.lemmas.Bool.{or_cases, or_right, cases_order, false≢true, true≢false, false_from_ne_true}
use Rattle.std.proofs.lemmas.Bool.Decides.{Decides-eqb}
use Rattle.ui_order.specs.Steps.{has, and_then, is_ready, order_from, Leads, direct, onward}
use Rattle.ui_order.specs.StepLaws.{has-self, find-passes, none_found}
use Rattle.ui_order.specs.OrderLaws.{len-keys, computes_cycles}
use Rattle.ui_order.specs.Found.{Text, Graph, imports_of}
use Rattle.ui_order.specs.Order.{build_order, on_cycle, least_on_cycle}
use Rattle.ui_order.specs.Numbers.{Links, linked, numbers, number_order, AreLinked, IsNumberOnCycle, IsFirstOnCycle}
use Rattle.ui_order.specs.Numbered.{path_at, AreLinksOf}
use Rattle.ui_order.proofs.NumberLemmas.{numbers-has, linked-past}
use Rattle.ui_order.proofs.PlanLemmas.{find-first, has_one}

-- the links of each place
links_at : (graph : Graph) (paths ks : List Text) (vs : Links) → AreLinksOf graph paths ks vs → (i : ℕ) → i < length ks
    → (map (path_at paths) (linked vs i) ≡ imports_of graph (path_at ks i)) × ((j : ℕ) → has nat_eq (linked vs i) j ≡ true → j < length paths)
links_at graph paths [] vs a i h = absurd (omega arith)
links_at graph paths (k ∷ ks) [] a i h = absurd a
links_at graph paths (k ∷ ks) (v ∷ vs) a zero h = (a.0, a.1)
links_at graph paths (k ∷ ks) (v ∷ vs) a (suc i) h = links_at graph paths ks vs a.2 i (omega arith)

pub links_size : (graph : Graph) (paths ks : List Text) (vs : Links) → AreLinksOf graph paths ks vs → length vs ≡ length ks
links_size graph paths [] [] a = refl
links_size graph paths [] (v ∷ vs) a = absurd a
links_size graph paths (k ∷ ks) [] a = absurd a
links_size graph paths (k ∷ ks) (v ∷ vs) a = ap suc (links_size graph paths ks vs a.2)

-- all of a list are below n
IsBelow : ℕ → List ℕ → Type 0
IsBelow n xs = (j : ℕ) → has nat_eq xs j ≡ true → j < n

module _ (graph : Graph) (links : Links) (sorted : IsStrictlySortedBy (slice_cmp nat_cmp) (keys graph)) (a : AreLinksOf graph (keys graph) (keys graph) links) where
  at : ℕ → Text
  at = path_at (keys graph)

  size : ℕ
  size = length (keys graph)

  count_is : length links ≡ length (keys graph)
  count_is = links_size graph (keys graph) (keys graph) links a

  pub all_linked : AreLinked links
  all_linked i j h =
      let low : i < length (keys graph) = let l = linked-past links i j h in let n = count_is in omega arith in
      let l = (links_at graph (keys graph) (keys graph) links a i low).1 j h in
      let n = count_is in
      omega arith

  imports_are : (i : ℕ) → i < size → map at (linked links i) ≡ imports_of graph (at i)
  unfolding at size
  imports_are i h = (links_at graph (keys graph) (keys graph) links a i h).0

  apart : (i j : ℕ) → i < j → j < size → bytes_eq (at i) (at j) ≡ false
  unfolding at size
  apart i j l h = sym (is_eq-slice_cmp (at i) (at j)) ∙ ap is_eq (Less-from_sorted (slice_cmp nat_cmp) (keys graph) i j [] sorted l h)

  same_number : (i j : ℕ) → i < size → j < size → bytes_eq (at i) (at j) ≡ nat_eq i j
  same_number i j hi hj = elim (cases_order i j) [
    | inl e ↦ (bytes_eq-Decides (at i) (at j)).1 (ap at e) ∙ sym ((Decides-eqb i j).1 e)
    | inr o ↦ elim o [
      | inl l ↦ apart i j l hj ∙ sym (false_from_ne_true (nat_eq i j) (λ e. let s = (Decides-eqb i j).0 e in absurd (omega arith)))
      | inr l ↦ false_from_ne_true (bytes_eq (at i) (at j)) (λ e. true≢false (sym ((bytes_eq-Decides (at j) (at i)).1 (sym ((bytes_eq-Decides (at i) (at j)).0 e))) ∙ apart j i l hi))
          ∙ sym (false_from_ne_true (nat_eq i j) (λ e. let s = (Decides-eqb i j).0 e in absurd (omega arith)))
    ]
  ]

  has_at : (xs : List ℕ) (i : ℕ) → IsBelow size xs → i < size → has bytes_eq (map at xs) (at i) ≡ has nat_eq xs i
  unfolding IsBelow
  has_at [] i b h = refl
  has_at (x ∷ xs) i b h =
      λ t. same_number i x h (b x (has-self nat_eq Decides-eqb x xs)) t || has_at xs i (λ j k. b j (or_right (nat_eq j x) (has nat_eq xs j) k)) h t

  all_at : (xs ys : List ℕ) → IsBelow size xs → IsBelow size ys → list_all (has bytes_eq (map at xs)) (map at ys) ≡ list_all (has nat_eq xs) ys
  unfolding IsBelow
  all_at xs [] b c = refl
  all_at xs (y ∷ ys) b c = λ t. has_at xs y b (c y (has-self nat_eq Decides-eqb y ys)) t && all_at xs ys b (λ j k. c j (or_right (nat_eq j y) (has nat_eq ys j) k)) t

  links_below : (i : ℕ) → IsBelow size (linked links i)
  unfolding IsBelow size
  links_below i j h = let l = all_linked i j h in let n = count_is in omega arith

  ready_at : (taken : List ℕ) (i : ℕ) → IsBelow size taken → i < size → is_ready bytes_eq (imports_of graph) (map at taken) (at i) ≡ is_ready nat_eq (linked links) taken i
  ready_at taken i b h =
      ap (λ xs. not (has bytes_eq (map at taken) (at i)) && list_all (has bytes_eq (map at taken)) xs) (sym (imports_are i h))
      ∙ (λ t. not (has_at taken i b h t) && all_at taken (linked links i) b (links_below i) t)

  find_in : (t : Text → Bool) (u : ℕ → Bool) (xs : List ℕ) → ((i : ℕ) → has nat_eq xs i ≡ true → t (at i) ≡ u i) → find t (map at xs) ≡ option_map at (find u xs)
  find_in t u [] h = refl
  find_in t u (x ∷ xs) h =
      ap (λ b. cond b (Some (at x)) (find t (map at xs))) (h x (has-self nat_eq Decides-eqb x xs))
      ∙ elim (u x) as (λ b. cond b (Some (at x)) (find t (map at xs)) ≡ option_map at (cond b (Some x) (find u xs))) [
        | true ↦ refl
        | false ↦ find_in t u xs (λ i k. h i (or_right (nat_eq i x) (has nat_eq xs i) k))
      ]

  numbers_below : IsBelow size (numbers links)
  unfolding IsBelow size
  numbers_below j h = let l = numbers-has (length links) j h in let n = count_is in omega arith

  is_low : (i : ℕ) → has nat_eq (numbers links) i ≡ true → i < size
  unfolding IsBelow
  is_low i h = numbers_below i h

  next_at : (taken : List ℕ) → IsBelow size taken → find (is_ready bytes_eq (imports_of graph) (map at taken)) (map at (numbers links)) ≡ option_map at (find (is_ready nat_eq (linked links) taken) (numbers links))
  next_at taken b = find_in (is_ready bytes_eq (imports_of graph) (map at taken)) (is_ready nat_eq (linked links) taken) (numbers links) (λ i h. ready_at taken i b (is_low i h))

  more_below : (taken : List ℕ) (p : ℕ) → IsBelow size taken → find (is_ready nat_eq (linked links) taken) (numbers links) ≡ Some p → IsBelow size (taken ++ p ∷ [])
  unfolding IsBelow
  more_below taken p b f j h = elim (has_one taken p j h) [
    | inl o ↦ b j o
    | inr o ↦ subst (λ x. x < size) (sym o) (numbers_below p (find-passes nat_eq Decides-eqb (is_ready nat_eq (linked links) taken) (numbers links) p f).1)
  ]

  order_at : (n : ℕ) (taken : List ℕ) → IsBelow size taken → order_from bytes_eq (imports_of graph) n (map at (numbers links)) (map at taken) ≡ map at (order_from nat_eq (linked links) n (numbers links) taken)
  order_at zero taken b = refl
  order_at (suc n) taken b =
      ap (and_then (order_from bytes_eq (imports_of graph) n (map at (numbers links))) (map at taken)) (next_at taken b)
      ∙ elim (find (is_ready nat_eq (linked links) taken) (numbers links)) as (λ r. find (is_ready nat_eq (linked links) taken) (numbers links) ≡ r
      → and_then (order_from bytes_eq (imports_of graph) n (map at (numbers links))) (map at taken) (option_map at r) ≡ map at (and_then (order_from nat_eq (linked links) n (numbers links)) taken r)) [
        | None ↦ λ f. refl
        | Some p ↦ λ f. ap (order_from bytes_eq (imports_of graph) n (map at (numbers links))) (sym (map-append at taken (p ∷ []))) ∙ order_at n (taken ++ p ∷ []) (more_below taken p b f)
      ] refl

  keys_are : keys graph ≡ map at (numbers links)
  unfolding at
  keys_are = fill_by_all (path_at (keys graph)) (keys graph) (length links) [] (sym count_is) (λ k h. refl)

  nothing_below : IsBelow size []
  unfolding IsBelow
  nothing_below j h = absurd (false≢true h)

  -- the build order is that of the numbers
  pub build_order-numbers : build_order graph ≡ map (path_at (keys graph)) (number_order links)
  unfolding build_order number_order at
  build_order-numbers =
      (λ t. order_from bytes_eq (imports_of graph) ((len-keys graph ∙ sym count_is) t) (keys_are t) [])
      ∙ order_at (length links) [] nothing_below

  -- ---- cycles
  led_below : (p q : ℕ) → Leads nat_eq (linked links) p q → q < size
  unfolding IsBelow
  led_below p q (direct m) = links_below p q m
  led_below p q (onward {q = s} l m) = links_below s q m

  leads_at : (i j : ℕ) → i < size → Leads nat_eq (linked links) i j → Leads bytes_eq (imports_of graph) (at i) (at j)
  unfolding IsBelow
  leads_at i j h (direct k) = direct (ap (λ xs. has bytes_eq xs (at j)) (sym (imports_are i h)) ∙ has_at (linked links i) j (links_below i) (links_below i j k) ∙ k)
  leads_at i j h (onward {q = r} l k) =
      let low = led_below i r l in
      onward (leads_at i r h l) (ap (λ xs. has bytes_eq xs (at j)) (sym (imports_are r low)) ∙ has_at (linked links r) j (links_below r) (links_below r j k) ∙ k)

  -- a path of a list of numbers
  number_in : (xs : List ℕ) (q : Text) → has bytes_eq (map at xs) q ≡ true → (j : ℕ) × ((has nat_eq xs j ≡ true) × (q ≡ at j))
  number_in [] q h = absurd (false≢true h)
  number_in (x ∷ xs) q h = elim (or_cases (bytes_eq q (at x)) (has bytes_eq (map at xs) q) h) [
    | inl e ↦ (x, (has-self nat_eq Decides-eqb x xs, (bytes_eq-Decides q (at x)).0 e))
    | inr e ↦ let r = number_in xs q e in (r.0, (or_right (nat_eq r.0 x) (has nat_eq xs r.0) r.1.0, r.1.1))
  ]

  leads_back : (i : ℕ) (q : Text) → i < size → Leads bytes_eq (imports_of graph) (at i) q → (j : ℕ) × ((j < size) × ((q ≡ at j) × Leads nat_eq (linked links) i j))
  unfolding IsBelow
  leads_back i q h (direct k) =
      let n = number_in (linked links i) q (ap (λ xs. has bytes_eq xs q) (imports_are i h) ∙ k) in
      (n.0, (links_below i n.0 n.1.0, (n.1.1, direct n.1.0)))
  leads_back i q h (onward {q = r} l k) =
      let m = leads_back i r h l in
      let n = number_in (linked links m.0) q (ap (λ xs. has bytes_eq xs q) (imports_are m.0 m.1.0 ∙ ap (imports_of graph) (sym m.1.1.0)) ∙ k) in
      (n.0, (links_below m.0 n.0 n.1.0, (n.1.1, onward m.1.1.1 n.1.0)))

  number_on_cycle : (i : ℕ) → i < size → on_cycle graph (at i) ≡ true → IsNumberOnCycle links i
  number_on_cycle i h e =
      let r = leads_back i (at i) h ((computes_cycles graph (at i)).0 e) in
      let same : r.0 ≡ i = sym ((Decides-eqb i r.0).0 (sym (same_number i r.0 h r.1.0) ∙ (bytes_eq-Decides (at i) (at r.0)).1 r.1.1.0)) in
      subst (λ x. Leads nat_eq (linked links) i x) same r.1.1.1

  path_on_cycle : (i : ℕ) → i < size → IsNumberOnCycle links i → on_cycle graph (at i) ≡ true
  path_on_cycle i h l = (computes_cycles graph (at i)).1 (leads_at i i h l)

  first : (r : Option ℕ) → IsFirstOnCycle links r → find (λ i. on_cycle graph (at i)) (numbers links) ≡ r
  unfolding size
  first None f = none_found nat_eq Decides-eqb (λ i. on_cycle graph (at i)) (numbers links) (λ i h. let low = numbers-has (length links) i h in let n = count_is in
      false_from_ne_true (on_cycle graph (at i)) (λ e. f i low (number_on_cycle i (omega arith) e)))
  first (Some i) f = let n = count_is in let low = f.0 in find-first (λ j. on_cycle graph (at j)) 0 (length links) i (path_on_cycle i (omega arith) f.1) (omega arith) (omega arith)
      (λ j l. false_from_ne_true (on_cycle graph (at j)) (λ e. f.2 j l (number_on_cycle j (omega arith) e)))

  -- the least path on a cycle is that of the least number
  pub least_on_cycle-numbers : (r : Option ℕ) → IsFirstOnCycle links r → least_on_cycle graph ≡ option_map (path_at (keys graph)) r
  unfolding least_on_cycle at
  least_on_cycle-numbers r f = ap (find (on_cycle graph)) keys_are ∙ find_in (on_cycle graph) (λ i. on_cycle graph (at i)) (numbers links) (λ i h. refl) ∙ ap (option_map at) (first r f)
