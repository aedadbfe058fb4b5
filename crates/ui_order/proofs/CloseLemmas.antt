-- A component is done.
use Rattle.std.specs.Prelude.{◌≡◌, ◌⊎◌, ◌↔◌, ℕ, ◌+◌, ◌<◌, ◌≤◌, Bool, true, false, nat_eq, List, [], ◌∷◌, ◌++◌, length, get_or, set, take, refl}
use Rattle.std.proofs.Common.{◌∙◌, ap, sym, subst, arith, inl, inr}
use Rattle.std.proofs.lemmas.List.{length-take-le, get_or-take, length-set, get_or-set_same, get_or-set_other}
use Rattle.std.proofs.lemmas.Bool.{cases_eq, cases_lt, false≢true, true≢false}
use Rattle.ui_order.specs.Steps.{has, Leads, direct, onward}
use Rattle.ui_order.specs.Numbers.{Links, linked, IsNumberOnCycle}
use Rattle.ui_order.specs.declared.cycle.Place.{Place}
use Rattle.ui_order.specs.declared.cycle.Place.TheVariants.{Unseen, OnPath, Done}
use Rattle.ui_order.specs.Components.{place_in, is_seen, is_done, Reaches, IsOnward, IsGone, ArePlaced, AreWalked, AreKept, IsClosed}
use Rattle.ui_order.proofs.NumberLemmas.{place_of}
use Rattle.ui_order.proofs.PlanLemmas.{has_one, still_has, pushed}
use Rattle.ui_order.proofs.RisingLemmas.{rising_front, rising_last}
use Rattle.ui_order.proofs.WalkLemmas.{path_low, reach_then, at_low, bound_low}

pub seen_done : (p : Place) → is_done p ≡ true → is_seen p ≡ true
seen_done Unseen e = e
seen_done (OnPath i) e = refl
seen_done (Done b) e = refl

-- ---- numbers of the path are marked one by one
module _ (places : List Place) (path : List ℕ) (s : ArePlaced places path) (from : ℕ) (b : Bool) where
  pub closed_none : IsClosed from from b places places
  closed_none = record { size = refl; kept = λ k h. refl; done = λ k i on le l. absurd (omega arith) }

  pub closed_more : (i : ℕ) (places' : List Place) → from ≤ i → i < length path → IsClosed from i b places places' → IsClosed from (i + 1) b places (set places' (get_or path i 0) (Done b))
  closed_more i places' le low c =
      let u = get_or path i 0 in
      let on : place_in places u ≡ OnPath i = s.on_path i low in
      let fits : u < length places' = let l = path_low places u i on in let size = c.size in omega arith in
      let other : (q : ℕ) → (q ≡ u → ⊥) → place_in (set places' u (Done b)) q ≡ place_in places' q = λ q ne. get_or-set_other places' u q (Done b) Unseen ne in
      let here : place_in (set places' u (Done b)) u ≡ Done b = get_or-set_same places' u (Done b) Unseen fits in
      record {
        size = length-set places' u (Done b) ∙ c.size;
        kept = λ k h. other k (λ e. h i (ap (place_in places) e ∙ on) le (omega arith)) ∙ c.kept k (λ j at f l. h j at f (omega arith));
        done = λ k j at f l. elim (cases_eq k u) [
          | inl e ↦ ap (place_in (set places' u (Done b))) e ∙ here
          | inr ne ↦ other k ne ∙ c.done k j at f (elim (cases_lt j i) [
            | inl o ↦ o
            | inr g ↦ absurd (ne (let was = (s.placed k j at).1 in let same : j ≡ i = omega arith in sym was ∙ ap (λ n. get_or path n 0) same))
          ])
        ];
      }

-- ---- the last component
module _ (links : Links) (places : List Place) (looked path bounds calls : List ℕ) (at : ℕ) (s : AreWalked links places looked path (bounds ++ at ∷ []) (calls ++ at ∷ []))
    (all : get_or looked (get_or path at 0) 0 ≡ length (linked links (get_or path at 0))) where
  low : at < length path
  low = at_low links places looked path (bounds ++ at ∷ []) calls at s

  on_at : place_in places (get_or path at 0) ≡ OnPath at
  on_at = s.at.on_path at low

  bound_le : (b : ℕ) → has nat_eq (bounds ++ at ∷ []) b ≡ true → b ≤ at
  bound_le b h = bound_low links places looked path (bounds ++ at ∷ []) calls at s b h

  call_le : (i : ℕ) → has nat_eq (calls ++ at ∷ []) i ≡ true → i ≤ at
  call_le i h = elim (has_one calls at i h) [ inl o ↦ let l = rising_last calls at i s.calls_rise o in omega arith | inr e ↦ omega arith ]

  -- its links are all looked at
  looked_all : (i : ℕ) → at ≤ i → i < length path → get_or looked (get_or path i 0) 0 ≡ length (linked links (get_or path i 0))
  looked_all i le l = elim (s.ended i l) [
    | inl h ↦ subst (λ n. get_or looked (get_or path n 0) 0 ≡ length (linked links (get_or path n 0))) (let m = call_le i h in let e : at ≡ i = omega arith in e) all
    | inr e ↦ e
  ]

  -- they lead to done numbers or within it
  leads_within : (k i q : ℕ) → place_in places k ≡ OnPath i → at ≤ i → has nat_eq (linked links k) q ≡ true
      → (is_done (place_in places q) ≡ true) ⊎ ((j : ℕ) × ((place_in places q ≡ OnPath j) × (at ≤ j)))
  leads_within k i q on le h =
      let was = s.at.placed k i on in
      let place = place_of (linked links k) q h in
      let x = place.0 in
      let full : get_or looked k 0 ≡ length (linked links k) = subst (λ y. get_or looked y 0 ≡ length (linked links y)) was.1 (looked_all i le was.0) in
      let less : x < get_or looked k 0 = let l = place.1.0 in omega arith in
      let gone : IsGone places (bounds ++ at ∷ []) i q = subst (λ y. IsGone places (bounds ++ at ∷ []) i y) (ap (λ y. get_or (linked links y) x 0) was.1 ∙ place.1.1)
      (s.gone i x was.0 (subst (λ y. x < get_or looked y 0) (sym was.1) less)) in
      elim gone [
        | inl d ↦ inl d
        | inr r ↦ inr (r.0, (r.1.0, r.1.1 at (pushed bounds at) le))
      ]

  -- ---- which of it are on cycles
  apart : (i j : ℕ) → i < length path → j < length path → (i ≡ j → ⊥) → Reaches links (get_or path i 0) (get_or path j 0) → Leads nat_eq (linked links) (get_or path i 0) (get_or path j 0)
  apart i j li lj ne (inl e) = absurd (ne (let on = s.at.on_path i li in let on' = ap (place_in places) e ∙ s.at.on_path j lj in let same : OnPath i ≡ OnPath j = sym on ∙ on' in cc))
  apart i j li lj ne (inr l) = l

  back : (i j : ℕ) → at ≤ i → at ≤ j → i < length path → j < length path → (i ≡ j → ⊥) → IsNumberOnCycle links (get_or path i 0)
  back i j ai aj li lj ne =
      reach_then links (get_or path i 0) (get_or path j 0) (get_or path i 0)
      (apart i j li lj ne (s.reaches i j li lj (λ b h _. let le = bound_le b h in omega arith)))
      (s.reaches j i lj li (λ b h _. let le = bound_le b h in omega arith))

  pub many_cycle : at + 1 < length path → (i : ℕ) → at ≤ i → i < length path → IsNumberOnCycle links (get_or path i 0)
  many_cycle more i le l = elim (cases_eq i at) [
    | inl e ↦ back i (at + 1) le (omega arith) l more (λ same. absurd (omega arith))
    | inr ne ↦ back i at le (omega arith) l low ne
  ]

  -- a number that is a component by itself
  module _ (alone : length path ≡ at + 1) (apart_self : has nat_eq (linked links (get_or path at 0)) (get_or path at 0) ≡ false) where
    leads_done : (q : ℕ) → Leads nat_eq (linked links) (get_or path at 0) q → is_done (place_in places q) ≡ true
    leads_done q (direct h) = elim (leads_within (get_or path at 0) at q on_at (omega arith) h) [
      | inl d ↦ d
      | inr r ↦ absurd (
          let was = s.at.placed q r.0 r.1.0 in
          let same : r.0 ≡ at = let l = was.0 in let le = r.1.1 in omega arith in
          let self : get_or path at 0 ≡ q = ap (λ n. get_or path n 0) (sym same) ∙ was.1 in
          true≢false (sym (subst (λ y. has nat_eq (linked links (get_or path at 0)) y ≡ true) (sym self) h) ∙ apart_self))
    ]
    leads_done q (onward {q = r} l h) = s.closed r q (leads_done r l) h

    pub alone_safe : IsNumberOnCycle links (get_or path at 0) → ⊥
    alone_safe l = false≢true (sym (ap is_done on_at) ∙ leads_done (get_or path at 0) l)

  pub tells_many : at + 1 < length path → (i : ℕ) → at ≤ i → i < length path → (true ≡ true) ↔ IsNumberOnCycle links (get_or path i 0)
  tells_many more i le l = (λ _. many_cycle more i le l, λ _. refl)

  pub tells_alone : (b : Bool) → length path ≡ at + 1 → has nat_eq (linked links (get_or path at 0)) (get_or path at 0) ≡ b → (i : ℕ) → at ≤ i → i < length path → (b ≡ true) ↔ IsNumberOnCycle links (get_or path i 0)
  tells_alone true alone self i le l =
      (λ _. subst (λ n. IsNumberOnCycle links (get_or path n 0)) (let e : at ≡ i = omega arith in e) (direct self), λ _. refl)
  tells_alone false alone self i le l =
      (λ e. absurd (false≢true e), λ c. absurd (alone_safe alone self (subst (λ n. IsNumberOnCycle links (get_or path n 0)) (let e : i ≡ at = omega arith in e) c)))

  -- ---- the walk without it
  module _ (b : Bool) (places' : List Place) (c : IsClosed at (length path) b places places') (tells : (i : ℕ) → at ≤ i → i < length path → (b ≡ true) ↔ IsNumberOnCycle links (get_or path i 0)) where
    kept_below : (k i : ℕ) → place_in places k ≡ OnPath i → i < at → place_in places' k ≡ OnPath i
    kept_below k i on l = c.kept k (λ j on' le _. absurd (let e : OnPath i ≡ OnPath j = sym on ∙ on' in let same : i ≡ j = cc in omega arith)) ∙ on

    done_from : (k i : ℕ) → place_in places k ≡ OnPath i → at ≤ i → place_in places' k ≡ Done b
    done_from k i on le = c.done k i on le (s.at.placed k i on).0

    -- a place before and after
    data After (k : ℕ) : Type 0 where
      is_unseen : place_in places k ≡ Unseen → place_in places' k ≡ Unseen → After k
      is_below : (i : ℕ) → place_in places k ≡ OnPath i → i < at → place_in places' k ≡ OnPath i → After k
      is_new : (i : ℕ) → place_in places k ≡ OnPath i → at ≤ i → place_in places' k ≡ Done b → After k
      is_old : (d : Bool) → place_in places k ≡ Done d → place_in places' k ≡ Done d → After k

    after : (k : ℕ) → After k
    after k = elim (place_in places k) as (λ p. place_in places k ≡ p → After k) [
      | Unseen ↦ λ e. is_unseen e (c.kept k (λ j on _ _. absurd (let clash : Unseen ≡ OnPath j = sym e ∙ on in cc)) ∙ e)
      | OnPath i ↦ λ e. elim (cases_lt i at) [ inl l ↦ is_below i e l (kept_below k i e l) | inr g ↦ is_new i e g (done_from k i e g) ]
      | Done d ↦ λ e. is_old d e (c.kept k (λ j on _ _. absurd (let clash : Done d ≡ OnPath j = sym e ∙ on in cc)) ∙ e)
    ] refl

    still_done : (k : ℕ) → is_done (place_in places k) ≡ true → is_done (place_in places' k) ≡ true
    still_done k d = elim (after k) [
      | is_unseen e e' ↦ absurd (false≢true (sym (ap is_done e) ∙ d))
      | is_below i e l e' ↦ absurd (false≢true (sym (ap is_done e) ∙ d))
      | is_new i e l e' ↦ ap is_done e'
      | is_old b' e e' ↦ ap is_done e'
    ]

    pub closed_kept : AreKept places places'
    closed_kept k h = elim (after k) [
      | is_unseen e e' ↦ absurd (false≢true (sym (ap is_seen e) ∙ h))
      | is_below i e l e' ↦ ap is_seen e'
      | is_new i e l e' ↦ ap is_seen e'
      | is_old b' e e' ↦ ap is_seen e'
    ]

    now_done : (k i : ℕ) → place_in places k ≡ OnPath i → at ≤ i → is_done (place_in places' k) ≡ true
    now_done k i on le = ap is_done (done_from k i on le)

    leads_out : (k i q : ℕ) → place_in places k ≡ OnPath i → at ≤ i → has nat_eq (linked links k) q ≡ true → is_done (place_in places' q) ≡ true
    leads_out k i q on le h = elim (leads_within k i q on le h) [ inl d ↦ still_done q d | inr r ↦ now_done q r.0 r.1.0 r.1.1 ]

    on_front : (i j : ℕ) → i < at → IsOnward bounds i j → IsOnward (bounds ++ at ∷ []) i j
    on_front i j l o b' h le = elim (has_one bounds at b' h) [ inl old ↦ o b' old le | inr e ↦ absurd (omega arith) ]

    gone_front : (i q : ℕ) → IsGone places (bounds ++ at ∷ []) i q → IsGone places' bounds i q
    gone_front i q (inl d) = inl (still_done q d)
    gone_front i q (inr r) = elim (cases_lt r.0 at) [
      | inl l ↦ inr (r.0, (kept_below q r.0 r.1.0 l, λ b' h le. r.1.1 b' (still_has bounds at b' h) le))
      | inr g ↦ inl (now_done q r.0 r.1.0 g)
    ]

    pub closed_walk : AreWalked links places' looked (take at path) bounds calls
    closed_walk =
        let size : length (take at path) ≡ at = let l = low in length-take-le at path (omega arith) in
        let within : (i : ℕ) → i < length (take at path) → i < at = λ i l. omega arith in
        let up : (i : ℕ) → i < length (take at path) → i < length path = λ i l. let m = low in omega arith in
        let front : (i : ℕ) → i < at → get_or (take at path) i 0 ≡ get_or path i 0 = λ i l. get_or-take at path i 0 l in
        record {
          places_size = c.size ∙ s.places_size;
          looked_size = s.looked_size;
          at = record {
            on_path = λ i l. ap (place_in places') (front i (within i l)) ∙ kept_below (get_or path i 0) i (s.at.on_path i (up i l)) (within i l);
            placed = λ k i on. elim (after k) [
              | is_unseen e e' ↦ absurd (let clash : Unseen ≡ OnPath i = sym e' ∙ on in cc)
              | is_below j e l e' ↦
                  let same : j ≡ i = let q : OnPath j ≡ OnPath i = sym e' ∙ on in cc in
                  (let m : i < length (take at path) = omega arith in m, front i (omega arith) ∙ ap (λ n. get_or path n 0) (sym same) ∙ (s.at.placed k j e).1)
              | is_new j e l e' ↦ absurd (let clash : Done b ≡ OnPath i = sym e' ∙ on in cc)
              | is_old d e e' ↦ absurd (let clash : Done d ≡ OnPath i = sym e' ∙ on in cc)
            ];
          };
          fresh = λ k un. elim (after k) [
            | is_unseen e e' ↦ s.fresh k e
            | is_below j e l e' ↦ absurd (let clash : OnPath j ≡ Unseen = sym e' ∙ un in cc)
            | is_new j e l e' ↦ absurd (let clash : Done b ≡ Unseen = sym e' ∙ un in cc)
            | is_old d e e' ↦ absurd (let clash : Done d ≡ Unseen = sym e' ∙ un in cc)
          ];
          within = s.within;
          calls_rise = rising_front calls at s.calls_rise;
          bounds_rise = rising_front bounds at s.bounds_rise;
          calls_placed = λ i h. let l = rising_last calls at i s.calls_rise h in omega arith;
          bounds_called = λ b' h. elim (has_one calls at b' (s.bounds_called b' (still_has bounds at b' h))) [
            | inl o ↦ o
            | inr e ↦ absurd (let l = rising_last bounds at b' s.bounds_rise h in omega arith)
          ];
          first_bound = λ l. elim (has_one bounds at 0 (s.first_bound (let m = low in omega arith))) [ inl o ↦ o | inr e ↦ absurd (omega arith) ];
          ended = λ i l. elim (s.ended i (up i l)) [
            | inl h ↦ elim (has_one calls at i h) [ inl o ↦ inl o | inr e ↦ absurd (let m = within i l in omega arith) ]
            | inr e ↦ inr (subst (λ y. get_or looked y 0 ≡ length (linked links y)) (sym (front i (within i l))) e)
          ];
          reaches = λ i j li lj o. subst (λ x. Reaches links x (get_or (take at path) j 0)) (sym (front i (within i li)))
              (subst (λ x. Reaches links (get_or path i 0) x) (sym (front j (within j lj))) (s.reaches i j (up i li) (up j lj) (on_front i j (within i li) o)));
          gone = λ i x l h. subst (λ y. IsGone places' bounds i (get_or (linked links y) x 0)) (sym (front i (within i l)))
              (gone_front i (get_or (linked links (get_or path i 0)) x 0) (s.gone i x (up i l) (subst (λ y. x < get_or looked y 0) (front i (within i l)) h)));
          closed = λ k q d h. elim (after k) [
            | is_unseen e e' ↦ absurd (false≢true (sym (ap is_done e') ∙ d))
            | is_below j e l e' ↦ absurd (false≢true (sym (ap is_done e') ∙ d))
            | is_new j e l e' ↦ leads_out k j q e l h
            | is_old t e e' ↦ still_done q (s.closed k q (ap is_done e) h)
          ];
          told = λ k t on. elim (after k) [
            | is_unseen e e' ↦ absurd (let clash : Unseen ≡ Done t = sym e' ∙ on in cc)
            | is_below j e l e' ↦ absurd (let clash : OnPath j ≡ Done t = sym e' ∙ on in cc)
            | is_new j e l e' ↦
                let same : b ≡ t = let q : Done b ≡ Done t = sym e' ∙ on in cc in
                let was = s.at.placed k j e in
                subst (λ x. (x ≡ true) ↔ IsNumberOnCycle links k) same (subst (λ y. (b ≡ true) ↔ IsNumberOnCycle links y) was.1 (tells j l was.0))
            | is_old d e e' ↦ s.told k t (e ∙ sym e' ∙ on)
          ];
        }
