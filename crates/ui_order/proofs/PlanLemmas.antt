-- A plan stays one when a number is looked at.
use Rattle.std.specs.Prelude.{◌≡◌, ◌⊎◌, ℕ, zero, suc, ◌+◌, ◌<◌, ◌≤◌, Bool, true, false, cond, not, nat_eq, List, [], ◌∷◌, ◌++◌, length, get_or, set, replicate, Vec, Some, None, find, Decides, refl}
use Rattle.std.proofs.Common.{◌∙◌, ap, sym, subst, arith, inl, inr}
use Rattle.std.specs.declared.alloc.Global.{Global}
use Rattle.std.specs.Ordering.{nat_cmp, is_eq, is_gt}
use Rattle.std.specs.List.{list_any, list_all, range_with_len}
use Rattle.std.specs.BTreeMap.{is_at}
use Rattle.std.specs.BTreeSet.{BTreeSet, contains}
use Rattle.std.proofs.lemmas.List.{length-set, get_or-set_same, get_or-set_other}
use Rattle.std.proofs.lemmas.Bool.{or_cases, or_left, or_right, and_from, and_parts, cases_eq, cases_lt, false≢true, true≢false, not_from_false, not-true, false_from_ne_true}
use Rattle.std.proofs.lemmas.Bool.Decides.{Decides-eqb, nat_tests}
use Rattle.ui_order.specs.Steps.{has, is_ready}
use Rattle.ui_order.specs.StepLaws.{has-self, has-append, all_pass, list_all-has, none_found, split}
use Rattle.ui_order.specs.OrderFrom.{order_before}
use Rattle.ui_order.specs.Numbers.{Links, linked, AreLinked, AreSized, ArePlanned, IsNumberOrder, next_number, numbers}
use Rattle.ui_order.proofs.NumberLemmas.{has-get_or, place_of, get_or-any, get_or-replicate, length-replicate, has-numbers, numbers-has, linked-set_same, linked-set_other}

pub tied : (k q : ℕ) → Decides (is_eq (nat_cmp k q)) (k ≡ q)
tied k q = (λ e. grind (arith, nat_tests), λ e. grind (arith, nat_tests))

pub has_one : (xs : List ℕ) (k q : ℕ) → has nat_eq (xs ++ k ∷ []) q ≡ true → (has nat_eq xs q ≡ true) ⊎ (q ≡ k)
has_one xs k q h = elim (or_cases (has nat_eq xs q) (has nat_eq (k ∷ []) q) (sym (has-append nat_eq Decides-eqb xs (k ∷ []) q) ∙ h)) [
  | inl e ↦ inl e
  | inr e ↦ elim (or_cases (nat_eq q k) false e) [ inl s ↦ inr ((Decides-eqb q k).0 s) | inr s ↦ absurd (false≢true s) ]
]

pub still_has : (xs : List ℕ) (k q : ℕ) → has nat_eq xs q ≡ true → has nat_eq (xs ++ k ∷ []) q ≡ true
still_has xs k q h = has-append nat_eq Decides-eqb xs (k ∷ []) q ∙ or_left (has nat_eq xs q) (has nat_eq (k ∷ []) q) h

pub pushed : (xs : List ℕ) (k : ℕ) → has nat_eq (xs ++ k ∷ []) k ≡ true
pushed xs k = has-append nat_eq Decides-eqb xs (k ∷ []) k ∙ or_right (has nat_eq xs k) (has nat_eq (k ∷ []) k) (has-self nat_eq Decides-eqb k [])

same_else : (xs : List ℕ) (i k : ℕ) → (i ≡ k → ⊥) → has nat_eq xs k ≡ has nat_eq (xs ++ i ∷ []) k
same_else xs i k ne = elim (has nat_eq xs k) as (λ b. has nat_eq xs k ≡ b → b ≡ has nat_eq (xs ++ i ∷ []) k) [
  | true ↦ λ e. sym (still_has xs i k e)
  | false ↦ λ e. sym (false_from_ne_true (has nat_eq (xs ++ i ∷ []) k) (λ h. elim (has_one xs i k h) [ inl o ↦ true≢false (sym o ∙ e) | inr o ↦ ne (sym o) ]))
] refl

above : (i j : ℕ) → is_gt (nat_cmp i j) ≡ false → j < i → ⊥
above i j h l = grind (arith, nat_tests)

module _ (links : Links) (k i : ℕ) (small : k < length links) where
  within_set : (at : List ℕ) → length at ≡ length links → ((q : ℕ) → q < length links → get_or at q 0 ≤ length (linked links q)) → i ≤ length (linked links k)
      → (q : ℕ) → q < length links → get_or (set at k i) q 0 ≤ length (linked links q)
  within_set at size w h q l = elim (cases_eq q k) [
    | inl e ↦ subst (λ x. get_or (set at k i) x 0 ≤ length (linked links x)) (sym e)
        (subst (λ n. n ≤ length (linked links k)) (sym (get_or-set_same at k i 0 (omega arith))) h)
    | inr ne ↦ subst (λ n. n ≤ length (linked links q)) (sym (get_or-set_other at k q i 0 ne)) (w q l)
  ]

  -- the links before the place are taken
  passed_set : (order : List ℕ) (taken : List Bool) (at : List ℕ) → AreLinked links → length at ≡ length links
      → ((q : ℕ) → q < length links → get_or taken q false ≡ has nat_eq order q)
      → ((q m : ℕ) → q < length links → m < get_or at q 0 → has nat_eq order (get_or (linked links q) m 0) ≡ true)
      → i ≤ length (linked links k)
      → ((m : ℕ) → get_or at k 0 ≤ m → m < i → get_or taken (get_or (linked links k) m 0) false ≡ true)
      → (q m : ℕ) → q < length links → m < get_or (set at k i) q 0 → has nat_eq order (get_or (linked links q) m 0) ≡ true
  passed_set order taken at linked_in size marks behind h passed q m l b = elim (cases_eq q k) [
    | inl e ↦
        let same : get_or (set at k i) q 0 ≡ i = ap (λ x. get_or (set at k i) x 0) e ∙ get_or-set_same at k i 0 (omega arith) in
        let before : m < i = omega arith in
        subst (λ x. has nat_eq order (get_or (linked links x) m 0) ≡ true) (sym e) (elim (cases_lt m (get_or at k 0)) [
          | inl lt ↦ behind k m small lt
          | inr ge ↦ sym (marks (get_or (linked links k) m 0) (linked_in k (get_or (linked links k) m 0) (has-get_or (linked links k) m 0 (omega arith)))) ∙ passed m ge before
        ])
    | inr ne ↦ behind q m l (subst (λ n. m < n) (get_or-set_other at k q i 0 ne) b)
  ]

  module _ (waiting : Links) (j : ℕ) (v : Vec ℕ Global) (one_more : v.items ≡ linked waiting j ++ k ∷ []) where
    waiting_now : j < length waiting → (p q : ℕ) → has nat_eq (linked (set waiting j v) p) q ≡ true → (has nat_eq (linked waiting p) q ≡ true) ⊎ ((p ≡ j) × (q ≡ k))
    waiting_now l p q h = elim (cases_eq p j) [
      | inl e ↦
          let on : has nat_eq (linked waiting j ++ k ∷ []) q ≡ true = ap (λ xs. has nat_eq xs q) (sym (ap (linked (set waiting j v)) e ∙ linked-set_same waiting j v l ∙ one_more)) ∙ h in
          elim (has_one (linked waiting j) k q on) [ inl o ↦ inl (ap (λ x. has nat_eq (linked waiting x) q) e ∙ o) | inr o ↦ inr (e, o) ]
      | inr ne ↦ inl (ap (λ xs. has nat_eq xs q) (sym (linked-set_other waiting j p v ne)) ∙ h)
    ]

    still_waiting : j < length waiting → (p q : ℕ) → has nat_eq (linked waiting p) q ≡ true → has nat_eq (linked (set waiting j v) p) q ≡ true
    still_waiting l p q h = elim (cases_eq p j) [
      | inl e ↦ ap (λ xs. has nat_eq xs q) (ap (linked (set waiting j v)) e ∙ linked-set_same waiting j v l ∙ one_more) ∙ still_has (linked waiting j) k q (ap (λ x. has nat_eq (linked waiting x) q) (sym e) ∙ h)
      | inr ne ↦ ap (λ xs. has nat_eq xs q) (linked-set_other waiting j p v ne) ∙ h
    ]

    waits_now : j < length waiting → has nat_eq (linked (set waiting j v) j) k ≡ true
    waits_now l = ap (λ xs. has nat_eq xs k) (linked-set_same waiting j v l ∙ one_more) ∙ pushed (linked waiting j) k

  ready_now : (old new : BTreeSet ℕ) → ((q : ℕ) → contains nat_cmp new q ≡ cond (is_eq (nat_cmp k q)) true (contains nat_cmp old q)) → (q : ℕ) → contains nat_cmp new q ≡ true → (contains nat_cmp old q ≡ true) ⊎ (k ≡ q)
  ready_now old new u q h = elim (is_eq (nat_cmp k q)) as (λ b. is_eq (nat_cmp k q) ≡ b → cond b true (contains nat_cmp old q) ≡ true → (contains nat_cmp old q ≡ true) ⊎ (k ≡ q)) [
    | true ↦ λ t e. inr ((tied k q).0 t)
    | false ↦ λ t e. inl e
  ] refl (sym (u q) ∙ h)

  still_ready : (old new : BTreeSet ℕ) → ((q : ℕ) → contains nat_cmp new q ≡ cond (is_eq (nat_cmp k q)) true (contains nat_cmp old q)) → (q : ℕ) → contains nat_cmp old q ≡ true → contains nat_cmp new q ≡ true
  still_ready old new u q h = u q ∙ elim (is_eq (nat_cmp k q)) as (λ b. cond b true (contains nat_cmp old q) ≡ true) [ true ↦ refl | false ↦ h ]

  is_now : (old new : BTreeSet ℕ) → ((q : ℕ) → contains nat_cmp new q ≡ cond (is_eq (nat_cmp k q)) true (contains nat_cmp old q)) → contains nat_cmp new k ≡ true
  is_now old new u = u k ∙ ap (λ b. cond b true (contains nat_cmp old k)) ((tied k k).1 refl)

  module _ (taken : List Bool) (at : List ℕ) (waiting : Links) (ready : BTreeSet ℕ) where
    pub sized_put : (v : Vec ℕ Global) → AreSized links taken at waiting ready → i < length (linked links k) → AreLinked links → v.items ≡ linked waiting (get_or (linked links k) i 0) ++ k ∷ []
        → AreSized links taken (set at k i) (set waiting (get_or (linked links k) i 0) v) ready
    sized_put v s h linked_in more =
        let j = get_or (linked links k) i 0 in
        let l : j < length waiting = let a = linked_in k j (has-get_or (linked links k) i 0 h) in let b = s.waiting_size in omega arith in
        record {
          taken_size = s.taken_size;
          at_size = length-set at k i ∙ s.at_size;
          waiting_size = length-set waiting j v ∙ s.waiting_size;
          within = within_set at s.at_size s.within (omega arith);
          small_waiting = λ p q w. elim (waiting_now waiting j v more l p q w) [ inl o ↦ s.small_waiting p q o | inr o ↦ subst (λ x. x < length links) (sym o.1) small ];
          small_ready = s.small_ready;
        }

    pub sized_ready : (new : BTreeSet ℕ) → AreSized links taken at waiting ready → i ≤ length (linked links k) → ((q : ℕ) → contains nat_cmp new q ≡ cond (is_eq (nat_cmp k q)) true (contains nat_cmp ready q))
        → AreSized links taken (set at k i) waiting new
    sized_ready new s h u = record {
      taken_size = s.taken_size;
      at_size = length-set at k i ∙ s.at_size;
      waiting_size = s.waiting_size;
      within = within_set at s.at_size s.within h;
      small_waiting = s.small_waiting;
      small_ready = λ q r. elim (ready_now ready new u q r) [ inl o ↦ s.small_ready q o | inr o ↦ subst (λ x. x < length links) o small ];
    }

    module _ (order left : List ℕ) (linked_in : AreLinked links) (s : AreSized links taken at waiting ready) (p : ArePlanned links order (k ∷ left) taken at waiting ready)
        (passed : (m : ℕ) → get_or at k 0 ≤ m → m < i → get_or taken (get_or (linked links k) m 0) false ≡ true) where
      left_fresh : (q : ℕ) → has nat_eq left q ≡ true → has nat_eq order q ≡ false
      left_fresh q h = p.fresh q (or_right (nat_eq q k) (has nat_eq left q) h)

      pub plan_put : (v : Vec ℕ Global) → i < length (linked links k) → get_or taken (get_or (linked links k) i 0) false ≡ false → v.items ≡ linked waiting (get_or (linked links k) i 0) ++ k ∷ []
          → ArePlanned links order left taken (set at k i) (set waiting (get_or (linked links k) i 0) v) ready
      plan_put v h found more =
          let j = get_or (linked links k) i 0 in
          let link : has nat_eq (linked links k) j ≡ true = has-get_or (linked links k) i 0 h in
          let low : j < length links = linked_in k j link in
          let l : j < length waiting = let b = s.waiting_size in omega arith in
          let out : has nat_eq order j ≡ false = sym (p.marks j low) ∙ found in
          record {
            marks = p.marks;
            behind = passed_set order taken at linked_in s.at_size p.marks p.behind (omega arith) passed;
            sound = p.sound;
            waiters = λ a b n w. elim (waiting_now waiting j v more l a b w) [
              | inl o ↦ p.waiters a b n o
              | inr o ↦ subst (λ x. has nat_eq (linked links x) a ≡ true) (sym o.1) (subst (λ x. has nat_eq (linked links k) x ≡ true) (sym o.0) link)
            ];
            waits = λ q lq n. elim (p.waits q lq n) [
              | inl r ↦ inl r
              | inr more_waits ↦ elim more_waits [
                | inl w ↦ inr (inl (w.0, (w.1.0, still_waiting waiting j v more l w.0 q w.1.1)))
                | inr f ↦ elim (or_cases (nat_eq q k) (has nat_eq left q) f) [
                  | inl e ↦ inr (inl (j, (out, subst (λ x. has nat_eq (linked (set waiting j v) j) x ≡ true) (sym ((Decides-eqb q k).0 e)) (waits_now waiting j v more l))))
                  | inr e ↦ inr (inr e)
                ]
              ]
            ];
            fresh = left_fresh;
          }

      pub plan_ready : (new : BTreeSet ℕ) → i ≤ length (linked links k) → length (linked links k) ≤ i → ((q : ℕ) → contains nat_cmp new q ≡ cond (is_eq (nat_cmp k q)) true (contains nat_cmp ready q))
          → ArePlanned links order left taken (set at k i) waiting new
      plan_ready new h all u =
          let behind = passed_set order taken at linked_in s.at_size p.marks p.behind h passed in
          let reached : get_or (set at k i) k 0 ≡ i = let b = s.at_size in get_or-set_same at k i 0 (omega arith) in
          let ready_k : is_ready nat_eq (linked links) order k ≡ true =
          and_from (not (has nat_eq order k)) (list_all (has nat_eq order) (linked links k)) (not_from_false (has nat_eq order k) (p.fresh k (has-self nat_eq Decides-eqb k left)))
          (all_pass nat_eq Decides-eqb (has nat_eq order) (linked links k) (λ q m.
          let place = place_of (linked links k) q m in
          let low : place.0 < get_or (set at k i) k 0 = let b = place.1.0 in omega arith in
          subst (λ x. has nat_eq order x ≡ true) place.1.1 (behind k place.0 small low))) in
          record {
            marks = p.marks;
            behind = behind;
            sound = λ q r. elim (ready_now ready new u q r) [ inl o ↦ p.sound q o | inr o ↦ subst (λ x. is_ready nat_eq (linked links) order x ≡ true) o ready_k ];
            waiters = p.waiters;
            waits = λ q lq n. elim (p.waits q lq n) [
              | inl r ↦ inl (still_ready ready new u q r)
              | inr more_waits ↦ elim more_waits [
                | inl w ↦ inr (inl w)
                | inr f ↦ elim (or_cases (nat_eq q k) (has nat_eq left q) f) [
                  | inl e ↦ inl (subst (λ x. contains nat_cmp new x ≡ true) (sym ((Decides-eqb q k).0 e)) (is_now ready new u))
                  | inr e ↦ inr (inr e)
                ]
              ]
            ];
            fresh = left_fresh;
          }

-- what was passed, in the words of the plan
pub passed_of : (links : Links) (k i : ℕ) (at : List ℕ) (taken seen : List Bool) (own : List ℕ) (from : ℕ) → k < length at → linked links k ≡ own → from ≡ get_or at k from → seen ≡ taken
    → ((m : ℕ) → from ≤ m → m < i → get_or seen (get_or own m 0) false ≡ true)
    → (m : ℕ) → get_or at k 0 ≤ m → m < i → get_or taken (get_or (linked links k) m 0) false ≡ true
passed_of links k i at taken seen own from l is at_k same passed m b h =
    let start : get_or at k 0 ≡ from = get_or-any at k 0 from l ∙ sym at_k in
    subst (λ xs. get_or taken (get_or xs m 0) false ≡ true) (sym is) (subst (λ ts. get_or ts (get_or own m 0) false ≡ true) same (passed m (omega arith) h))

-- nothing is ready in an empty set
none_ready : (ready : BTreeSet ℕ) (k : ℕ) → ready.keys ≡ [] → contains nat_cmp ready k ≡ false
none_ready ready k e = ap (λ ks. list_any (is_at (nat_cmp k)) ks) e

none_waits : (waiting : Links) (j k : ℕ) → ((p : ℕ) → linked waiting p ≡ []) → has nat_eq (linked waiting j) k ≡ false
none_waits waiting j k e = ap (λ xs. has nat_eq xs k) (e j)

module _ (links : Links) (taken : List Bool) (at : List ℕ) (waiting : Links) (ready : BTreeSet ℕ) (ts : taken ≡ replicate (length links) false) (as' : at ≡ replicate (length links) 0)
    (size : length waiting ≡ length links) (empty : (j : ℕ) → linked waiting j ≡ []) (none : ready.keys ≡ []) where
  begins_at : (k : ℕ) → get_or at k 0 ≡ 0
  begins_at k = ap (λ xs. get_or xs k 0) as' ∙ get_or-replicate (length links) k 0

  pub first_sized : AreSized links taken at waiting ready
  first_sized = record {
    taken_size = ap length ts ∙ length-replicate (length links) false;
    at_size = ap length as' ∙ length-replicate (length links) 0;
    waiting_size = size;
    within = λ k l. let e = begins_at k in omega arith;
    small_waiting = λ j k h. absurd (false≢true (sym (none_waits waiting j k empty) ∙ h));
    small_ready = λ k h. absurd (false≢true (sym (none_ready ready k none) ∙ h));
  }

  pub first_planned : ArePlanned links [] (range_with_len 0 (length links)) taken at waiting ready
  first_planned = record {
    marks = λ k l. ap (λ xs. get_or xs k false) ts ∙ get_or-replicate (length links) k false;
    behind = λ k i l h. absurd (let e = begins_at k in omega arith);
    sound = λ k h. absurd (false≢true (sym (none_ready ready k none) ∙ h));
    waiters = λ j k n h. absurd (false≢true (sym (none_waits waiting j k empty) ∙ h));
    waits = λ k l n. inr (inr (has-numbers (length links) k l));
    fresh = λ k h. refl;
  }

-- ---- the least ready number is taken
pub find-first : (t : ℕ → Bool) (a m i : ℕ) → t i ≡ true → a ≤ i → i < a + m → ((j : ℕ) → j < i → t j ≡ false) → find t (range_with_len a m) ≡ Some i
find-first t a zero i holds low high before = absurd (omega arith)
find-first t a (suc m) i holds low high before =
    elim (cases_eq a i) [
      | inl e ↦ ap (λ b. cond b (Some a) (find t (range_with_len (a + 1) m))) (ap t e ∙ holds) ∙ ap Some e
      | inr ne ↦
          let less : a < i = omega arith in
          ap (λ b. cond b (Some a) (find t (range_with_len (a + 1) m))) (before a less) ∙ find-first t (a + 1) m i holds (omega arith) (omega arith) before
    ]

module _ (links : Links) (order : List ℕ) (taken : List Bool) (at : List ℕ) (waiting : Links) (ready : BTreeSet ℕ) (s : AreSized links taken at waiting ready) (p : ArePlanned links order [] taken at waiting ready) where
  -- whoever is ready is known to be
  all_ready : (k : ℕ) → k < length links → is_ready nat_eq (linked links) order k ≡ true → contains nat_cmp ready k ≡ true
  all_ready k l r =
      let both = and_parts (not (has nat_eq order k)) (list_all (has nat_eq order) (linked links k)) r in
      elim (p.waits k l (not-true (has nat_eq order k) both.0)) [
        | inl c ↦ c
        | inr more ↦ elim more [
          | inl w ↦ absurd (true≢false (sym (list_all-has nat_eq Decides-eqb (has nat_eq order) (linked links k) w.0 both.1 (p.waiters w.0 k w.1.0 w.1.1)) ∙ w.1.0))
          | inr n ↦ absurd (false≢true n)
        ]
      ]

  pub nothing_next : ready.keys ≡ [] → next_number links order ≡ None
  nothing_next none = none_found nat_eq Decides-eqb (is_ready nat_eq (linked links) order) (numbers links) (λ q h. false_from_ne_true (is_ready nat_eq (linked links) order q) (λ r.
      true≢false (sym (all_ready q (numbers-has (length links) q h) r) ∙ none_ready ready q none)))

  module _ (i : ℕ) (inside : contains nat_cmp ready i ≡ true) where
    pub least_next : ((q : ℕ) → contains nat_cmp ready q ≡ true → is_gt (nat_cmp i q) ≡ false) → next_number links order ≡ Some i
    least_next least =
        let low = s.small_ready i inside in
        find-first (is_ready nat_eq (linked links) order) 0 (length links) i (p.sound i inside) (omega arith) (omega arith) (λ j less.
        false_from_ne_true (is_ready nat_eq (linked links) order j) (λ r. above i j (least j (all_ready j (omega arith) r)) less))

    module _ (v : Vec ℕ Global) (new : BTreeSet ℕ) (empty : v.items ≡ []) (u : (q : ℕ) → contains nat_cmp new q ≡ cond (is_eq (nat_cmp i q)) false (contains nat_cmp ready q)) where
      was_waiting : (j k : ℕ) → has nat_eq (linked (set waiting i v) j) k ≡ true → has nat_eq (linked waiting j) k ≡ true
      was_waiting j k h = elim (cases_eq j i) [
        | inl e ↦
            let low : i < length waiting = let a = s.small_ready i inside in let b = s.waiting_size in omega arith in
            absurd (false≢true (ap (λ xs. has nat_eq xs k) (sym (ap (linked (set waiting i v)) e ∙ linked-set_same waiting i v low ∙ empty)) ∙ h))
        | inr ne ↦ ap (λ xs. has nat_eq xs k) (sym (linked-set_other waiting i j v ne)) ∙ h
      ]

      was_ready : (q : ℕ) → contains nat_cmp new q ≡ true → (contains nat_cmp ready q ≡ true) × (i ≡ q → ⊥)
      was_ready q h = elim (is_eq (nat_cmp i q)) as (λ b. is_eq (nat_cmp i q) ≡ b → cond b false (contains nat_cmp ready q) ≡ true → (contains nat_cmp ready q ≡ true) × (i ≡ q → ⊥)) [
        | true ↦ λ t e. absurd (false≢true e)
        | false ↦ λ t e. (e, λ same. true≢false (sym ((tied i q).1 same) ∙ t))
      ] refl (sym (u q) ∙ h)

      other_ready : (q : ℕ) → contains nat_cmp ready q ≡ true → (i ≡ q → ⊥) → contains nat_cmp new q ≡ true
      other_ready q h ne = u q ∙ ap (λ b. cond b false (contains nat_cmp ready q)) (false_from_ne_true (is_eq (nat_cmp i q)) (λ e. ne ((tied i q).0 e))) ∙ h

      pub taken_sized : AreSized links (set taken i true) at (set waiting i v) new
      taken_sized = record {
        taken_size = length-set taken i true ∙ s.taken_size;
        at_size = s.at_size;
        waiting_size = length-set waiting i v ∙ s.waiting_size;
        within = s.within;
        small_waiting = λ j k h. s.small_waiting j k (was_waiting j k h);
        small_ready = λ k h. s.small_ready k (was_ready k h).0;
      }

      not_in : (k : ℕ) → has nat_eq order k ≡ false → (i ≡ k → ⊥) → has nat_eq (order ++ i ∷ []) k ≡ false
      not_in k h ne = false_from_ne_true (has nat_eq (order ++ i ∷ []) k) (λ e. elim (has_one order i k e) [ inl o ↦ true≢false (sym o ∙ h) | inr o ↦ ne (sym o) ])

      was_out : (k : ℕ) → has nat_eq (order ++ i ∷ []) k ≡ false → (has nat_eq order k ≡ false) × (i ≡ k → ⊥)
      was_out k h = (false_from_ne_true (has nat_eq order k) (λ e. true≢false (sym (still_has order i k e) ∙ h)), λ e. true≢false (sym (subst (λ x. has nat_eq (order ++ i ∷ []) x ≡ true) e (pushed order i)) ∙ h))

      still : (k : ℕ) → is_ready nat_eq (linked links) order k ≡ true → (i ≡ k → ⊥) → is_ready nat_eq (linked links) (order ++ i ∷ []) k ≡ true
      still k r ne =
          let both = and_parts (not (has nat_eq order k)) (list_all (has nat_eq order) (linked links k)) r in
          and_from (not (has nat_eq (order ++ i ∷ []) k)) (list_all (has nat_eq (order ++ i ∷ [])) (linked links k))
          (not_from_false (has nat_eq (order ++ i ∷ []) k) (not_in k (not-true (has nat_eq order k) both.0) ne))
          (all_pass nat_eq Decides-eqb (has nat_eq (order ++ i ∷ [])) (linked links k) (λ q m. still_has order i q (list_all-has nat_eq Decides-eqb (has nat_eq order) (linked links k) q both.1 m)))

      pub taken_planned : IsNumberOrder links order → ArePlanned links (order ++ i ∷ []) (linked waiting i) (set taken i true) at (set waiting i v) new
      taken_planned o =
          let low = s.small_ready i inside in
          let both = and_parts (not (has nat_eq order i)) (list_all (has nat_eq order) (linked links i)) (p.sound i inside) in
          let out : has nat_eq order i ≡ false = not-true (has nat_eq order i) both.0 in
          record {
            marks = λ k l. elim (cases_eq k i) [
              | inl e ↦ ap (λ x. get_or (set taken i true) x false) e ∙ get_or-set_same taken i true false (let b = s.taken_size in omega arith) ∙ sym (subst (λ x. has nat_eq (order ++ i ∷ []) x ≡ true) (sym e) (pushed order i))
              | inr ne ↦ get_or-set_other taken i k true false ne ∙ p.marks k l ∙ same_else order i k (λ e. ne (sym e))
            ];
            behind = λ k m l h. still_has order i (get_or (linked links k) m 0) (p.behind k m l h);
            sound = λ k h. let w = was_ready k h in still k (p.sound k w.0) w.1;
            waiters = λ j k n h. p.waiters j k (was_out j n).0 (was_waiting j k h);
            waits = λ k l n. let w = was_out k n in elim (p.waits k l w.0) [
              | inl c ↦ inl (other_ready k c w.1)
              | inr more ↦ elim more [
                | inl a ↦ elim (cases_eq a.0 i) [
                  | inl e ↦ inr (inr (subst (λ x. has nat_eq (linked waiting x) k ≡ true) e a.1.1))
                  | inr ne ↦ inr (inl (a.0, (not_in a.0 a.1.0 (λ e. ne (sym e)), ap (λ xs. has nat_eq xs k) (linked-set_other waiting i a.0 v ne) ∙ a.1.1)))
                ]
                | inr a ↦ absurd (false≢true a)
              ]
            ];
            fresh = λ k h.
                let link = p.waiters i k out h in
                not_in k (false_from_ne_true (has nat_eq order k) (λ e.
                let parts = split nat_eq Decides-eqb order k e in
                let before = (order_before nat_eq Decides-eqb (linked links) (numbers links) order parts.0 k parts.1.0 o parts.1.1).imported i link in
                true≢false (sym (ap (λ xs. has nat_eq xs i) parts.1.1 ∙ has-append nat_eq Decides-eqb parts.0 (k ∷ parts.1.0) i ∙ or_left (has nat_eq parts.0 i) (has nat_eq (k ∷ parts.1.0) i) before) ∙ out)))
                (λ e. true≢false (sym (list_all-has nat_eq Decides-eqb (has nat_eq order) (linked links i) i both.1 (subst (λ x. has nat_eq (linked links x) i ≡ true) (sym e) link)) ∙ out));
          }
