-- A walk goes a step.
use Rattle.std.specs.Prelude.{◌≡◌, ◌↔◌, ℕ, zero, suc, ◌+◌, ◌-◌, ◌<◌, ◌≤◌, Bool, true, nat_eq, List, [], ◌∷◌, ◌++◌, ◌||◌, length, get_or, set, take, Vec, refl}
use Rattle.std.proofs.Common.{◌∙◌, ap, sym, subst, arith, inl, inr}
use Rattle.std.proofs.lemmas.List.{get_or-set_same}
use Rattle.std.proofs.lemmas.Bool.{cases_eq, false≢true, false_from_ne_true}
use Rattle.std.proofs.lemmas.Bool.Decides.{Decides-eqb}
use Rattle.std.specs.List.{list_any}
use Rattle.std.specs.declared.alloc.Global.{Global}
use Rattle.ui_order.specs.Steps.{has}
use Rattle.ui_order.specs.Numbers.{Links, linked, IsNumberOnCycle}
use Rattle.ui_order.specs.declared.cycle.Walk.{Walk}
use Rattle.ui_order.specs.declared.cycle.Place.TheVariants.{Unseen, OnPath, Done}
use Rattle.ui_order.specs.Components.{place_in, is_seen, is_done, Reaches, IsRising, IsGone, AreWalked, AreKept, IsWalk, IsWalkAt, IsEntered, IsClosed, IsFollowed, IsStep, IsAtRest, unlooked}
use Rattle.ui_order.proofs.NumberLemmas.{get_or-any, linked-is}
use Rattle.ui_order.proofs.RisingLemmas.{length_more, get_or_old}
use Rattle.ui_order.proofs.WalkLemmas.{entered, entered_kept, reach_on, reaches_last, at_low, last_number, not_bound, merged, merged_gone, looked_more, left_call}
use Rattle.ui_order.proofs.CloseLemmas.{closed_kept, closed_walk, tells_many, tells_alone}

pub unlooked_less : (links : Links) (looked : List ℕ) (k : ℕ) → length looked ≡ length links → k < length looked → get_or looked k 0 < length (linked links k)
    → unlooked links (set looked k (get_or looked k 0 + 1)) + 1 ≡ unlooked links looked
unlooked_less [] looked k e l h = absurd (let e' : length looked ≡ 0 = e in omega arith)
unlooked_less (v ∷ vs) [] k e l h = absurd (omega arith)
unlooked_less (v ∷ vs) (x ∷ xs) zero e l h = omega arith
unlooked_less (v ∷ vs) (x ∷ xs) (suc k) e l h = let rest = unlooked_less vs xs k (let e' : suc (length xs) ≡ suc (length vs) = e in omega arith) (omega arith) h in omega arith

-- ---- a number is entered
module _ (links : Links) (walk walk' : Walk) (k : ℕ) (s : IsWalk links walk) (e : IsEntered k walk walk') (low : k < length links) (unseen : place_in walk.places.items k ≡ Unseen)
    (lead : (i : ℕ) → i < length walk.path.items → Reaches links (get_or walk.path.items i 0) k) where
  pub entered_is : IsWalk links walk'
  entered_is =
      subst (λ v. AreWalked links walk'.places.items v.items walk'.path.items walk'.bounds.items walk'.calls.items) (sym e.looked)
      (subst (λ xs. AreWalked links xs walk.looked.items walk'.path.items walk'.bounds.items walk'.calls.items) (sym e.places)
      (subst (λ xs. AreWalked links (set walk.places.items k (OnPath (length walk.path.items))) walk.looked.items xs walk'.bounds.items walk'.calls.items) (sym e.path)
      (subst (λ xs. AreWalked links (set walk.places.items k (OnPath (length walk.path.items))) walk.looked.items (walk.path.items ++ k ∷ []) xs walk'.calls.items) (sym e.bounds)
      (subst (λ xs. AreWalked links (set walk.places.items k (OnPath (length walk.path.items))) walk.looked.items (walk.path.items ++ k ∷ []) (walk.bounds.items ++ length walk.path.items ∷ []) xs) (sym e.calls)
      (entered links walk.places.items walk.looked.items walk.path.items walk.bounds.items walk.calls.items s k low unseen lead)))))

  pub entered_keeps : AreKept walk.places.items walk'.places.items
  entered_keeps = subst (λ xs. AreKept walk.places.items xs) (sym e.places) (entered_kept links walk.places.items walk.looked.items walk.path.items walk.bounds.items walk.calls.items s k low unseen lead)

  pub entered_here : place_in walk'.places.items k ≡ OnPath (length walk.path.items)
  entered_here = ap (λ xs. place_in xs k) e.places ∙ (let size = s.places_size in get_or-set_same walk.places.items k (OnPath (length walk.path.items)) Unseen (omega arith))

-- ---- along a link of the last call
module _ (links : Links) (walk : Walk) (calls : List ℕ) (at link : ℕ) (s : IsWalk links walk) (last : walk.calls.items ≡ calls ++ at ∷ []) (step : has nat_eq (linked links (get_or walk.path.items at 0)) link ≡ true) where
  s' : AreWalked links walk.places.items walk.looked.items walk.path.items walk.bounds.items (calls ++ at ∷ [])
  s' = subst (λ xs. AreWalked links walk.places.items walk.looked.items walk.path.items walk.bounds.items xs) last s

  low : at < length walk.path.items
  low = at_low links walk.places.items walk.looked.items walk.path.items walk.bounds.items calls at s'

  lead : (i : ℕ) → i < length walk.path.items → Reaches links (get_or walk.path.items i 0) link
  lead i l = inr (reach_on links (get_or walk.path.items i 0) (get_or walk.path.items at 0) link (reaches_last links walk.places.items walk.looked.items walk.path.items walk.bounds.items calls at s' i l) step)

  pub followed_new : (walk' : Walk) → link < length walk.places.items → place_in walk.places.items link ≡ Unseen → IsEntered link walk walk' → IsFollowed links at link walk walk'
  followed_new walk' fits unseen e =
      let within : link < length links = let size = s.places_size in omega arith in
      let size : length walk'.path.items ≡ length walk.path.items + 1 = ap length e.path ∙ length_more walk.path.items link in
      record {
        walked = entered_is links walk walk' link s e within unseen lead;
        kept = entered_keeps links walk walk' link s e within unseen lead;
        looked = e.looked;
        calls = let n : length walk'.calls.items ≡ length walk.calls.items + 1 = ap length e.calls ∙ length_more walk.calls.items (length walk.path.items) in omega arith;
        still = (let l = low in let m : at < length walk'.path.items = omega arith in m, ap (λ xs. get_or xs at 0) e.path ∙ get_or_old walk.path.items link at low);
        gone = inr (length walk.path.items, (entered_here links walk walk' link s e within unseen lead, λ b _ le. let l = low in omega arith));
      }

  pub followed_path : (walk' : Walk) (p : ℕ) → place_in walk.places.items link ≡ OnPath p → walk'.places ≡ walk.places → walk'.looked ≡ walk.looked → walk'.path ≡ walk.path → walk'.calls ≡ walk.calls → IsRising walk'.bounds.items
      → ((b : ℕ) → (has nat_eq walk'.bounds.items b ≡ true) ↔ ((has nat_eq walk.bounds.items b ≡ true) × (b ≤ p))) → IsFollowed links at link walk walk'
  followed_path walk' p on same_places same_looked same_path same_calls rise kept =
      let was = s.at.placed link p on in
      let step' : has nat_eq (linked links (get_or walk.path.items at 0)) (get_or walk.path.items p 0) ≡ true = subst (λ q. has nat_eq (linked links (get_or walk.path.items at 0)) q ≡ true) (sym was.1) step in
      record {
        walked =
            subst (λ v. AreWalked links v.items walk'.looked.items walk'.path.items walk'.bounds.items walk'.calls.items) (sym same_places)
            (subst (λ v. AreWalked links walk.places.items v.items walk'.path.items walk'.bounds.items walk'.calls.items) (sym same_looked)
            (subst (λ v. AreWalked links walk.places.items walk.looked.items v.items walk'.bounds.items walk'.calls.items) (sym same_path)
            (subst (λ v. AreWalked links walk.places.items walk.looked.items walk.path.items walk'.bounds.items v.items) (sym same_calls)
            (subst (λ xs. AreWalked links walk.places.items walk.looked.items walk.path.items walk'.bounds.items xs) (sym last)
            (merged links walk.places.items walk.looked.items walk.path.items walk.bounds.items calls at s' walk'.bounds.items p rise kept was.0 step')))));
        kept = subst (λ v. AreKept walk.places.items v.items) (sym same_places) (λ q h. h);
        looked = same_looked;
        calls = let n : length walk'.calls.items ≡ length walk.calls.items = ap (λ v. length v.items) same_calls in omega arith;
        still = (subst (λ v. at < length v.items) (sym same_path) low, ap (λ v. get_or v.items at 0) same_path);
        gone = subst (λ v. IsGone v.items walk'.bounds.items at link) (sym same_places) (subst (λ q. IsGone walk.places.items walk'.bounds.items at q) was.1
            (merged_gone links walk.places.items walk.looked.items walk.path.items walk.bounds.items calls at s' walk'.bounds.items p rise kept was.0 step' (s.at.on_path p was.0)));
      }

  pub followed_done : (b : Bool) → place_in walk.places.items link ≡ Done b → IsFollowed links at link walk walk
  followed_done b on = record { walked = s; kept = λ q h. h; looked = refl; calls = omega arith; still = (low, refl); gone = inl (ap is_done on) }

-- ---- a step
module _ (links : Links) (walk : Walk) (at : ℕ) (s : IsWalkAt links walk at) where
  pub at_fits : at < length walk.path.items
  at_fits = at_low links walk.places.items walk.looked.items walk.path.items walk.bounds.items walk.calls.items at s

  pub number_fits : get_or walk.path.items at 0 < length links
  number_fits = last_number links walk.places.items walk.looked.items walk.path.items walk.bounds.items walk.calls.items at s

  pub called_walk : (called : Walk) → called.places ≡ walk.places → called.looked ≡ walk.looked → called.path ≡ walk.path → called.bounds ≡ walk.bounds → called.calls.items ≡ walk.calls.items ++ at ∷ [] → IsWalk links called
  called_walk called places looked path bounds calls =
      subst (λ v. AreWalked links v.items called.looked.items called.path.items called.bounds.items called.calls.items) (sym places)
      (subst (λ v. AreWalked links walk.places.items v.items called.path.items called.bounds.items called.calls.items) (sym looked)
      (subst (λ v. AreWalked links walk.places.items walk.looked.items v.items called.bounds.items called.calls.items) (sym path)
      (subst (λ v. AreWalked links walk.places.items walk.looked.items walk.path.items v.items called.calls.items) (sym bounds)
      (subst (λ xs. AreWalked links walk.places.items walk.looked.items walk.path.items walk.bounds.items xs) (sym calls) s))))

  -- one more link of the last call is looked at
  pub stepped_on : (called followed walk' : Walk) (link : ℕ) → called.places ≡ walk.places → called.looked ≡ walk.looked → called.path ≡ walk.path → called.calls.items ≡ walk.calls.items ++ at ∷ []
      → IsFollowed links at link called followed
      → get_or walk.looked.items (get_or walk.path.items at 0) 0 < length (linked links (get_or walk.path.items at 0))
      → get_or (linked links (get_or walk.path.items at 0)) (get_or walk.looked.items (get_or walk.path.items at 0) 0) 0 ≡ link
      → walk'.places ≡ followed.places → walk'.path ≡ followed.path → walk'.bounds ≡ followed.bounds → walk'.calls ≡ followed.calls
      → walk'.looked.items ≡ set walk.looked.items (get_or walk.path.items at 0) (get_or walk.looked.items (get_or walk.path.items at 0) 0 + 1)
      → IsStep links walk walk'
  stepped_on called followed walk' link called_places called_looked called_path called_calls f more is places path bounds calls looked =
      let u = get_or walk.path.items at 0 in
      let here : get_or followed.path.items at 0 ≡ u = f.still.1 ∙ ap (λ v. get_or v.items at 0) called_path in
      let same : followed.looked ≡ walk.looked = f.looked ∙ called_looked in
      let w : AreWalked links followed.places.items walk.looked.items followed.path.items followed.bounds.items followed.calls.items =
      subst (λ v. AreWalked links followed.places.items v.items followed.path.items followed.bounds.items followed.calls.items) same f.walked in
      let more' = subst (λ y. get_or walk.looked.items y 0 < length (linked links y)) (sym here) more in
      let gone' = subst (λ q. IsGone followed.places.items followed.bounds.items at q) (sym (ap (λ y. get_or (linked links y) (get_or walk.looked.items y 0) 0) here ∙ is)) f.gone in
      record {
        walked =
            subst (λ v. AreWalked links v.items walk'.looked.items walk'.path.items walk'.bounds.items walk'.calls.items) (sym places)
            (subst (λ v. AreWalked links followed.places.items walk'.looked.items v.items walk'.bounds.items walk'.calls.items) (sym path)
            (subst (λ v. AreWalked links followed.places.items walk'.looked.items followed.path.items v.items walk'.calls.items) (sym bounds)
            (subst (λ v. AreWalked links followed.places.items walk'.looked.items followed.path.items followed.bounds.items v.items) (sym calls)
            (subst (λ xs. AreWalked links followed.places.items xs followed.path.items followed.bounds.items followed.calls.items) (sym looked)
            (subst (λ y. AreWalked links followed.places.items (set walk.looked.items y (get_or walk.looked.items y 0 + 1)) followed.path.items followed.bounds.items followed.calls.items) here
            (looked_more links followed.places.items walk.looked.items followed.path.items followed.bounds.items followed.calls.items w at f.still.0 gone' more'))))));
        kept = λ q h. subst (λ v. is_seen (place_in v.items q) ≡ true) (sym places) (f.kept q (subst (λ v. is_seen (place_in v.items q) ≡ true) (sym called_places) h));
        fewer =
            let low = number_fits in
            let size = s.looked_size in
            let less = unlooked_less links walk.looked.items u s.looked_size (omega arith) more in
            let u' : unlooked links walk'.looked.items ≡ unlooked links (set walk.looked.items u (get_or walk.looked.items u 0 + 1)) = ap (unlooked links) looked in
            let n : length walk'.calls.items ≡ length followed.calls.items = ap (λ v. length v.items) calls in
            let m : length called.calls.items ≡ length walk.calls.items + 1 = ap length called_calls ∙ length_more walk.calls.items at in
            let more_calls = f.calls in
            omega arith;
      }

  -- the last call ends, and a component with it
  module _ (bounds : List ℕ) (last : walk.bounds.items ≡ bounds ++ at ∷ []) (all : get_or walk.looked.items (get_or walk.path.items at 0) 0 ≡ length (linked links (get_or walk.path.items at 0))) where
    split : AreWalked links walk.places.items walk.looked.items walk.path.items (bounds ++ at ∷ []) (walk.calls.items ++ at ∷ [])
    split = subst (λ xs. AreWalked links walk.places.items walk.looked.items walk.path.items xs (walk.calls.items ++ at ∷ [])) last s

    -- the numbers of the component tell it
    abbrev pub Tells : Bool → Type 0
    Tells b = (i : ℕ) → at ≤ i → i < length walk.path.items → (b ≡ true) ↔ IsNumberOnCycle links (get_or walk.path.items i 0)

    pub told_many : (b : Bool) → b ≡ true → at + 1 < length walk.path.items → Tells b
    told_many b is more = subst (λ t. Tells t) (sym is) (λ i le l. tells_many links walk.places.items walk.looked.items walk.path.items bounds walk.calls.items at split all more i le l)

    pub told_alone : (b : Bool) → length walk.path.items ≤ at + 1 → has nat_eq (linked links (get_or walk.path.items at 0)) (get_or walk.path.items at 0) ≡ b → Tells b
    told_alone b few self i le l = tells_alone links walk.places.items walk.looked.items walk.path.items bounds walk.calls.items at split all b (omega arith) self i le l

    pub stepped_closed : (walk' : Walk) (b : Bool) → IsClosed at (length walk.path.items) b walk.places.items walk'.places.items → Tells b
        → walk'.path.items ≡ take at walk.path.items → walk'.bounds.items ≡ bounds → walk'.looked ≡ walk.looked → walk'.calls ≡ walk.calls → IsStep links walk walk'
    stepped_closed walk' b c tells path bounds_are looked calls = record {
      walked =
          subst (λ v. AreWalked links walk'.places.items v.items walk'.path.items walk'.bounds.items walk'.calls.items) (sym looked)
          (subst (λ v. AreWalked links walk'.places.items walk.looked.items walk'.path.items walk'.bounds.items v.items) (sym calls)
          (subst (λ xs. AreWalked links walk'.places.items walk.looked.items xs walk'.bounds.items walk.calls.items) (sym path)
          (subst (λ xs. AreWalked links walk'.places.items walk.looked.items (take at walk.path.items) xs walk.calls.items) (sym bounds_are)
          (closed_walk links walk.places.items walk.looked.items walk.path.items bounds walk.calls.items at split all b walk'.places.items c tells))));
      kept = closed_kept links walk.places.items walk.looked.items walk.path.items bounds walk.calls.items at split all b walk'.places.items c tells;
      fewer =
          let u : unlooked links walk'.looked.items ≡ unlooked links walk.looked.items = ap (λ v. unlooked links v.items) looked in
          let n : length walk'.calls.items ≡ length walk.calls.items = ap (λ v. length v.items) calls in
          omega arith;
    }

  -- the last call ends within a component
  pub stepped_back : (0 < length walk.bounds.items → get_or walk.bounds.items (length walk.bounds.items - 1) 0 ≡ at → ⊥) → get_or walk.looked.items (get_or walk.path.items at 0) 0 ≡ length (linked links (get_or walk.path.items at 0)) → IsStep links walk walk
  stepped_back inside all = record {
    walked = left_call links walk.places.items walk.looked.items walk.path.items walk.bounds.items walk.calls.items at s (not_bound links walk.places.items walk.looked.items walk.path.items walk.bounds.items walk.calls.items at s inside) all;
    kept = λ q h. h;
    fewer = omega arith;
  }

-- ---- what is read
pub number_read : (xs : List ℕ) (i j d : ℕ) → i ≡ j → j < length xs → d ≡ get_or xs i d → d ≡ get_or xs j 0
number_read xs i j d e l h = h ∙ get_or-any xs i d 0 (omega arith) ∙ ap (λ n. get_or xs n 0) e

pub slice_read : (links : Links) (k u : ℕ) (v : Vec ℕ Global) (slice : List ℕ) → k ≡ u → u < length links → v ≡ get_or links k v → slice ≡ v.items → linked links u ≡ slice
slice_read links k u v slice e l h same = sym (ap (linked links) e) ∙ linked-is links k v (omega arith) h ∙ sym same

-- the test of a slice
pub has_turned : (xs : List ℕ) (q : ℕ) → list_any (λ y. nat_eq y q) xs ≡ has nat_eq xs q
has_turned [] q = refl
has_turned (x ∷ xs) q =
    let same : nat_eq x q ≡ nat_eq q x = elim (cases_eq x q) [
      | inl e ↦ (Decides-eqb x q).1 e ∙ sym ((Decides-eqb q x).1 (sym e))
      | inr ne ↦ false_from_ne_true (nat_eq x q) (λ h. ne ((Decides-eqb x q).0 h)) ∙ sym (false_from_ne_true (nat_eq q x) (λ h. ne (sym ((Decides-eqb q x).0 h))))
    ] in
    λ t. same t || has_turned xs q t

-- ---- at rest
module _ (links : Links) (walk : Walk) (r : IsAtRest links walk) where
  pub rest_empty : (i : ℕ) → i < length walk.path.items → ⊥
  rest_empty i l =
      let called : has nat_eq walk.calls.items 0 ≡ true = r.walked.bounds_called 0 (r.walked.first_bound (omega arith)) in
      false≢true (ap (λ xs. has nat_eq xs 0) (sym r.uncalled) ∙ called)

  pub rest_done : (k : ℕ) → is_seen (place_in walk.places.items k) ≡ true → is_done (place_in walk.places.items k) ≡ true
  rest_done k h = elim (place_in walk.places.items k) as (λ p. place_in walk.places.items k ≡ p → is_seen p ≡ true → is_done p ≡ true) [
    | Unseen ↦ λ e d. d
    | OnPath i ↦ λ e d. absurd (rest_empty i (r.walked.at.placed k i e).0)
    | Done b ↦ λ e d. d
  ] refl h
