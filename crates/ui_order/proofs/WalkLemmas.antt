-- A walk goes on: to a number that wasn't seen, along a link to the path, past a link.
use Rattle.std.specs.Prelude.{◌≡◌, ◌⊎◌, ◌↔◌, ℕ, zero, suc, ◌+◌, ◌-◌, ◌<◌, ◌≤◌, true, nat_eq, List, [], ◌∷◌, ◌++◌, length, get_or, set}
use Rattle.std.proofs.Common.{◌∙◌, ap, sym, subst, arith, inl, inr}
use Rattle.std.proofs.lemmas.List.{length-set, get_or-set_same, get_or-set_other}
use Rattle.std.proofs.lemmas.Bool.{cases_eq, cases_lt, false≢true}
use Rattle.ui_order.specs.Steps.{has, Leads, direct, onward}
use Rattle.ui_order.specs.Numbers.{Links, linked}
use Rattle.ui_order.specs.declared.cycle.Place.{Place}
use Rattle.ui_order.specs.declared.cycle.Place.TheVariants.{Unseen, OnPath}
use Rattle.ui_order.specs.Components.{place_in, is_seen, is_done, Reaches, IsRising, IsOnward, IsGone, AreWalked, AreKept}
use Rattle.ui_order.proofs.NumberLemmas.{has-get_or, place_of}
use Rattle.ui_order.proofs.PlanLemmas.{has_one, still_has, pushed}
use Rattle.ui_order.proofs.RisingLemmas.{length_more, get_or_old, get_or_new, rising_push, rising_front, rising_last}

pub seen_low : (places : List Place) (k : ℕ) → is_seen (place_in places k) ≡ true → k < length places
seen_low [] k e = absurd (false≢true e)
seen_low (p ∷ places) zero e = omega arith
seen_low (p ∷ places) (suc k) e = let l = seen_low places k e in omega arith

pub path_low : (places : List Place) (k i : ℕ) → place_in places k ≡ OnPath i → k < length places
path_low places k i e = seen_low places k (ap is_seen e)

pub reach_on : (links : Links) (p q r : ℕ) → Reaches links p q → has nat_eq (linked links q) r ≡ true → Leads nat_eq (linked links) p r
reach_on links p q r (inl e) h = direct (subst (λ x. has nat_eq (linked links x) r ≡ true) (sym e) h)
reach_on links p q r (inr l) h = onward l h

pub leads_then : (links : Links) (p q r : ℕ) → Leads nat_eq (linked links) p q → Leads nat_eq (linked links) q r → Leads nat_eq (linked links) p r
leads_then links p q r l (direct h) = onward l h
leads_then links p q r l (onward {q = m} k h) = onward (leads_then links p q m l k) h

pub reach_then : (links : Links) (p q r : ℕ) → Leads nat_eq (linked links) p q → Reaches links q r → Leads nat_eq (linked links) p r
reach_then links p q r l (inl e) = subst (λ x. Leads nat_eq (linked links) p x) e l
reach_then links p q r l (inr k) = leads_then links p q r l k

module _ (links : Links) (places : List Place) (looked path bounds calls : List ℕ) where
  -- ---- a number that wasn't seen
  module _ (s : AreWalked links places looked path bounds calls) (k : ℕ) (low : k < length links) (unseen : place_in places k ≡ Unseen)
      (lead : (i : ℕ) → i < length path → Reaches links (get_or path i 0) k) where
    abbrev places' : List Place
    places' = set places k (OnPath (length path))

    here : place_in places' k ≡ OnPath (length path)
    here = let size = s.places_size in get_or-set_same places k (OnPath (length path)) Unseen (omega arith)

    other : (q : ℕ) → (q ≡ k → ⊥) → place_in places' q ≡ place_in places q
    other q ne = get_or-set_other places k q (OnPath (length path)) Unseen ne

    path_not : (i : ℕ) → i < length path → get_or path i 0 ≡ k → ⊥
    path_not i l e = let on = s.at.on_path i l in let un : place_in places (get_or path i 0) ≡ Unseen = subst (λ x. place_in places x ≡ Unseen) (sym e) unseen in cc

    placed_not : (q i : ℕ) → place_in places q ≡ OnPath i → q ≡ k → ⊥
    placed_not q i on e = let un : place_in places q ≡ Unseen = subst (λ x. place_in places x ≡ Unseen) (sym e) unseen in cc

    done_not : (q : ℕ) → is_done (place_in places q) ≡ true → q ≡ k → ⊥
    done_not q d e = false≢true (sym (ap is_done (subst (λ x. place_in places x ≡ Unseen) (sym e) unseen)) ∙ d)

    still_done : (q : ℕ) → is_done (place_in places q) ≡ true → is_done (place_in places' q) ≡ true
    still_done q d = ap is_done (other q (done_not q d)) ∙ d

    was_done : (q : ℕ) → is_done (place_in places' q) ≡ true → (q ≡ k → ⊥)
    was_done q d e = false≢true (sym (ap is_done (ap (place_in places') e ∙ here)) ∙ d)

    more_onward : (i j : ℕ) → i < length path → IsOnward bounds i j → IsOnward (bounds ++ length path ∷ []) i j
    more_onward i j l o b h le = elim (has_one bounds (length path) b h) [ inl old ↦ o b old le | inr new ↦ absurd (omega arith) ]

    gone_on : (i q : ℕ) → i < length path → IsGone places bounds i q → IsGone places' (bounds ++ length path ∷ []) i q
    gone_on i q l (inl d) = inl (still_done q d)
    gone_on i q l (inr r) = inr (r.0, (other q (placed_not q r.0 r.1.0) ∙ r.1.0, more_onward i r.0 l r.1.1))

    pub entered_kept : AreKept places places'
    entered_kept q h = elim (cases_eq q k) [
      | inl e ↦ ap is_seen (ap (place_in places') e ∙ here)
      | inr ne ↦ ap is_seen (other q ne) ∙ h
    ]

    pub entered : AreWalked links places' looked (path ++ k ∷ []) (bounds ++ length path ∷ []) (calls ++ length path ∷ [])
    entered =
        let size = length_more path k in
        let old : (i : ℕ) → i < length path → get_or (path ++ k ∷ []) i 0 ≡ get_or path i 0 = λ i l. get_or_old path k i l in
        let new : (i : ℕ) → i ≡ length path → get_or (path ++ k ∷ []) i 0 ≡ k = λ i e. get_or_new path k i e in
        let in_two : (i : ℕ) → i < length (path ++ k ∷ []) → (i < length path) ⊎ (i ≡ length path) =
        λ i l. elim (cases_lt i (length path)) [ inl o ↦ inl o | inr o ↦ inr (omega arith) ] in
        record {
          places_size = length-set places k (OnPath (length path)) ∙ s.places_size;
          looked_size = s.looked_size;
          at = record {
            on_path = λ i l. elim (in_two i l) [
              | inl o ↦ ap (place_in places') (old i o) ∙ other (get_or path i 0) (path_not i o) ∙ s.at.on_path i o
              | inr e ↦ ap (place_in places') (new i e) ∙ here ∙ ap OnPath (sym e)
            ];
            placed = λ q i on. elim (cases_eq q k) [
              | inl e ↦
                  let same : OnPath (length path) ≡ OnPath i = sym (ap (place_in places') e ∙ here) ∙ on in
                  let at : length path ≡ i = cc in
                  (let l : i < length (path ++ k ∷ []) = omega arith in l, new i (sym at) ∙ sym e)
              | inr ne ↦
                  let was = s.at.placed q i (sym (other q ne) ∙ on) in
                  (let l = was.0 in let m : i < length (path ++ k ∷ []) = omega arith in m, old i was.0 ∙ was.1)
            ];
          };
          fresh = λ q un. elim (cases_eq q k) [
            | inl e ↦ absurd (let on = ap (place_in places') e ∙ here in cc)
            | inr ne ↦ s.fresh q (sym (other q ne) ∙ un)
          ];
          within = s.within;
          calls_rise = rising_push calls (length path) s.calls_rise s.calls_placed;
          bounds_rise = rising_push bounds (length path) s.bounds_rise (λ b h. s.calls_placed b (s.bounds_called b h));
          calls_placed = λ i h. elim (has_one calls (length path) i h) [ inl o ↦ let l = s.calls_placed i o in omega arith | inr e ↦ omega arith ];
          bounds_called = λ b h. elim (has_one bounds (length path) b h) [
            | inl o ↦ still_has calls (length path) b (s.bounds_called b o)
            | inr e ↦ subst (λ x. has nat_eq (calls ++ length path ∷ []) x ≡ true) (sym e) (pushed calls (length path))
          ];
          first_bound = λ _. elim (cases_lt 0 (length path)) [
            | inl l ↦ still_has bounds (length path) 0 (s.first_bound l)
            | inr g ↦ subst (λ x. has nat_eq (bounds ++ length path ∷ []) x ≡ true) (let e : length path ≡ 0 = omega arith in e) (pushed bounds (length path))
          ];
          ended = λ i l. elim (in_two i l) [
            | inl o ↦ elim (s.ended i o) [
              | inl h ↦ inl (still_has calls (length path) i h)
              | inr e ↦ inr (subst (λ x. get_or looked x 0 ≡ length (linked links x)) (sym (old i o)) e)
            ]
            | inr e ↦ inl (subst (λ x. has nat_eq (calls ++ length path ∷ []) x ≡ true) (sym e) (pushed calls (length path)))
          ];
          reaches = λ i j li lj o. elim (in_two i li) [
            | inl oi ↦ subst (λ x. Reaches links x (get_or (path ++ k ∷ []) j 0)) (sym (old i oi)) (elim (in_two j lj) [
              | inl oj ↦ subst (λ x. Reaches links (get_or path i 0) x) (sym (old j oj)) (s.reaches i j oi oj (λ b h le. o b (still_has bounds (length path) b h) le))
              | inr ej ↦ subst (λ x. Reaches links (get_or path i 0) x) (sym (new j ej)) (lead i oi)
            ])
            | inr ei ↦ elim (in_two j lj) [
              | inl oj ↦ absurd (let le = o (length path) (pushed bounds (length path)) (omega arith) in omega arith)
              | inr ej ↦ inl (new i ei ∙ sym (new j ej))
            ]
          ];
          gone = λ i x l h. elim (in_two i l) [
            | inl o ↦ subst (λ y. IsGone places' (bounds ++ length path ∷ []) i (get_or (linked links y) x 0)) (sym (old i o))
                (gone_on i (get_or (linked links (get_or path i 0)) x 0) o (s.gone i x o (subst (λ y. x < get_or looked y 0) (old i o) h)))
            | inr e ↦ absurd (let none : get_or looked (get_or (path ++ k ∷ []) i 0) 0 ≡ 0 = ap (λ y. get_or looked y 0) (new i e) ∙ s.fresh k unseen in omega arith)
          ];
          closed = λ p q d h. still_done q (s.closed p q (sym (ap is_done (other p (was_done p d))) ∙ d) h);
          told = λ q b e. s.told q b (sym (other q (λ same. was_done q (ap is_done e) same)) ∙ e);
        }

  -- ---- one more link of a number of the path is looked at
  module _ (s : AreWalked links places looked path bounds calls) (at : ℕ) (at_low : at < length path) where
    pub looked_more : IsGone places bounds at (get_or (linked links (get_or path at 0)) (get_or looked (get_or path at 0) 0) 0) → get_or looked (get_or path at 0) 0 < length (linked links (get_or path at 0))
        → AreWalked links places (set looked (get_or path at 0) (get_or looked (get_or path at 0) 0 + 1)) path bounds calls
    looked_more gone more =
        let u = get_or path at 0 in
        let x0 = get_or looked u 0 in
        let low : u < length looked = let l = path_low places u at (s.at.on_path at at_low) in let n = s.places_size in let m = s.looked_size in omega arith in
        let same : get_or (set looked u (x0 + 1)) u 0 ≡ x0 + 1 = get_or-set_same looked u (x0 + 1) 0 low in
        let other : (q : ℕ) → (q ≡ u → ⊥) → get_or (set looked u (x0 + 1)) q 0 ≡ get_or looked q 0 = λ q ne. get_or-set_other looked u q (x0 + 1) 0 ne in
        let placed : place_in places u ≡ OnPath at = s.at.on_path at at_low in
        record {
          places_size = s.places_size;
          looked_size = length-set looked u (x0 + 1) ∙ s.looked_size;
          at = s.at;
          fresh = λ q un. elim (cases_eq q u) [
            | inl e ↦ absurd (let un' : place_in places u ≡ Unseen = subst (λ y. place_in places y ≡ Unseen) e un in cc)
            | inr ne ↦ other q ne ∙ s.fresh q un
          ];
          within = λ q. elim (cases_eq q u) [
            | inl e ↦ subst (λ y. get_or (set looked u (x0 + 1)) y 0 ≤ length (linked links y)) (sym e) (omega arith)
            | inr ne ↦ subst (λ n. n ≤ length (linked links q)) (sym (other q ne)) (s.within q)
          ];
          calls_rise = s.calls_rise;
          bounds_rise = s.bounds_rise;
          calls_placed = s.calls_placed;
          bounds_called = s.bounds_called;
          first_bound = s.first_bound;
          ended = λ i l. elim (s.ended i l) [
            | inl h ↦ inl h
            | inr e ↦ elim (cases_eq (get_or path i 0) u) [
              | inl is ↦ absurd (let all : get_or looked u 0 ≡ length (linked links u) = subst (λ y. get_or looked y 0 ≡ length (linked links y)) is e in omega arith)
              | inr ne ↦ inr (other (get_or path i 0) ne ∙ e)
            ]
          ];
          reaches = s.reaches;
          gone = λ i x l h. elim (cases_eq (get_or path i 0) u) [
            | inl is ↦
                let on : place_in places u ≡ OnPath i = subst (λ y. place_in places y ≡ OnPath i) is (s.at.on_path i l) in
                let here : i ≡ at = let e : OnPath i ≡ OnPath at = sym on ∙ placed in cc in
                let less : x < x0 + 1 = subst (λ n. x < n) (ap (λ y. get_or (set looked u (x0 + 1)) y 0) is ∙ same) h in
                elim (cases_lt x x0) [
                  | inl o ↦ s.gone i x l (subst (λ y. x < get_or looked y 0) (sym is) o)
                  | inr g ↦ subst (λ n. IsGone places bounds n (get_or (linked links (get_or path n 0)) x 0)) (sym here)
                      (subst (λ n. IsGone places bounds at (get_or (linked links u) n 0)) (let e : x0 ≡ x = omega arith in e) gone)
                ]
            | inr ne ↦ s.gone i x l (subst (λ n. x < n) (other (get_or path i 0) ne) h)
          ];
          closed = s.closed;
          told = s.told;
        }

  -- ---- the last call
  module _ (at : ℕ) (s : AreWalked links places looked path bounds (calls ++ at ∷ [])) where
    pub at_low : at < length path
    at_low = s.calls_placed at (pushed calls at)

    pub bound_low : (b : ℕ) → has nat_eq bounds b ≡ true → b ≤ at
    bound_low b h = elim (has_one calls at b (s.bounds_called b h)) [
      | inl o ↦ let l = rising_last calls at b s.calls_rise o in omega arith
      | inr e ↦ omega arith
    ]

    pub not_bound : (0 < length bounds → get_or bounds (length bounds - 1) 0 ≡ at → ⊥) → has nat_eq bounds at ≡ true → ⊥
    not_bound last h =
        let place = place_of bounds at h in
        let fits : place.0 < length bounds = place.1.0 in
        let same : get_or bounds place.0 0 ≡ at = place.1.1 in
        elim (cases_lt place.0 (length bounds - 1)) [
          | inl l ↦
              let more = s.bounds_rise place.0 (length bounds - 1) l (omega arith) in
              let most = bound_low (get_or bounds (length bounds - 1) 0) (has-get_or bounds (length bounds - 1) 0 (omega arith)) in
              omega arith
          | inr g ↦ last (omega arith) (ap (λ n. get_or bounds n 0) (let e : length bounds - 1 ≡ place.0 = omega arith in e) ∙ same)
        ]

    -- each number of the path reaches it
    pub reaches_last : (i : ℕ) → i < length path → Reaches links (get_or path i 0) (get_or path at 0)
    reaches_last i l = s.reaches i at l at_low (λ b h le. bound_low b h)

    pub last_number : get_or path at 0 < length links
    last_number = let low = path_low places (get_or path at 0) at (s.at.on_path at at_low) in let size = s.places_size in omega arith

    -- the components from position p on are one
    module _ (bounds' : List ℕ) (p : ℕ) (rise : IsRising bounds') (kept : (b : ℕ) → (has nat_eq bounds' b ≡ true) ↔ ((has nat_eq bounds b ≡ true) × (b ≤ p)))
        (low : p < length path) (link : has nat_eq (linked links (get_or path at 0)) (get_or path p 0) ≡ true) where
      pub wider : (i j : ℕ) → IsOnward bounds i j → IsOnward bounds' i j
      wider i j o b h le = o b ((kept b).0 h).0 le

      wider_gone : (i q : ℕ) → IsGone places bounds i q → IsGone places bounds' i q
      wider_gone i q (inl d) = inl d
      wider_gone i q (inr r) = inr (r.0, (r.1.0, wider i r.0 r.1.1))

      pub merged : AreWalked links places looked path bounds' (calls ++ at ∷ [])
      merged = record {
        places_size = s.places_size;
        looked_size = s.looked_size;
        at = s.at;
        fresh = s.fresh;
        within = s.within;
        calls_rise = s.calls_rise;
        bounds_rise = rise;
        calls_placed = s.calls_placed;
        bounds_called = λ b h. s.bounds_called b ((kept b).0 h).0;
        first_bound = λ l. (kept 0).1 (s.first_bound l, omega arith);
        ended = s.ended;
        reaches = λ i j li lj o. elim (cases_lt p i) [
          | inl l ↦ inr (reach_then links (get_or path i 0) (get_or path p 0) (get_or path j 0)
              (reach_on links (get_or path i 0) (get_or path at 0) (get_or path p 0) (reaches_last i li) link)
              (s.reaches p j low lj (λ b h le. o b ((kept b).1 (h, le)) (omega arith))))
          | inr g ↦ s.reaches i j li lj (λ b h le. o b ((kept b).1 (h, (let m : b ≤ p = omega arith in m))) le)
        ];
        gone = λ i x l h. wider_gone i (get_or (linked links (get_or path i 0)) x 0) (s.gone i x l h);
        closed = s.closed;
        told = s.told;
      }

      pub merged_gone : place_in places (get_or path p 0) ≡ OnPath p → IsGone places bounds' at (get_or path p 0)
      merged_gone on = inr (p, (on, λ b h le. ((kept b).0 h).1))

    -- its call ends where it begins no component
    pub left_call : (has nat_eq bounds at ≡ true → ⊥) → get_or looked (get_or path at 0) 0 ≡ length (linked links (get_or path at 0)) → AreWalked links places looked path bounds calls
    left_call inside all = record {
      places_size = s.places_size;
      looked_size = s.looked_size;
      at = s.at;
      fresh = s.fresh;
      within = s.within;
      calls_rise = rising_front calls at s.calls_rise;
      bounds_rise = s.bounds_rise;
      calls_placed = λ i h. s.calls_placed i (still_has calls at i h);
      bounds_called = λ b h. elim (has_one calls at b (s.bounds_called b h)) [ inl o ↦ o | inr e ↦ absurd (inside (subst (λ x. has nat_eq bounds x ≡ true) e h)) ];
      first_bound = s.first_bound;
      ended = λ i l. elim (s.ended i l) [
        | inl h ↦ elim (has_one calls at i h) [
          | inl o ↦ inl o
          | inr e ↦ inr (subst (λ x. get_or looked (get_or path x 0) 0 ≡ length (linked links (get_or path x 0))) (sym e) all)
        ]
        | inr e ↦ inr e
      ];
      reaches = s.reaches;
      gone = s.gone;
      closed = s.closed;
      told = s.told;
    }
