-- The extents of types, part by part and Type by Type.
use Rattle.std.proofs.Common.{◌≡◌, ℕ, zero, suc, ◌-◌, ◌+◌, ◌<◌, ◌≤◌, max, Bool, true, false, List, [], ◌∷◌, ◌++◌}
use Rattle.std.proofs.Common.{length, take, drop, get_or, refl, sym, ap, subst, ◌∙◌, arith, append_assoc}
use Rattle.std.proofs.Common.{take_all, take-append-drop, drop-cons, Option, Some, None, Result, inl, inr}
use Rattle.std.specs.Prelude.{IfOk, nat_le, ◌&&◌}
use Rattle.std.proofs.Math.Seq.{get_or-append_seam}
use Rattle.std.proofs.lemmas.Bool.{cases_lt, leb-true, leb-false}
use Rattle.std.proofs.lemmas.List.{get_or_append_left, length-append, take_more, drop_all}
use Rattle.ui_frame.specs.declared.section.Section.{Section}
use Rattle.ui_frame.specs.declared.section.Section.TheVariants.{Types}
use Rattle.ui_etype.specs.declared.uses.TypeUse.{TypeUse}
use Rattle.ui_etype.specs.declared.types.TypeEl.{TypeEl}
use Rattle.ui_file.specs.declared.extent.Extent.{Extent}
use Rattle.ui_file.specs.declared.file.File.{File}
use Rattle.ui_file.specs.Rules.{parts_of, used_extent, all_beside, above, extent_of, extents_from, is_within, no_nodes}
use Rattle.ui_file.specs.Rules.{KeepsLimit, count_in}
use Rattle.ui_file_rules.specs.First.{FirstOf}
use Rattle.ui_type_rules.specs.Within.{AreBeside, IsWithin}

-- ---- parts side by side

module _ (done : List Extent) where
  size_append : (xs ys : List TypeUse)
      → (all_beside done (xs ++ ys)).size ≡ (all_beside done xs).size + (all_beside done ys).size
  size_append [] ys = omega arith
  size_append (x ∷ xs) ys = let h = size_append xs ys in omega arith

  depth_append : (xs ys : List TypeUse)
      → (all_beside done (xs ++ ys)).depth
      ≡ max (all_beside done xs).depth (all_beside done ys).depth
  depth_append [] ys = omega arith
  depth_append (x ∷ xs) ys = let h = depth_append xs ys in omega arith

  -- the part at i after those before it
  pub size_more : (xs : List TypeUse) (i : ℕ) (u : TypeUse) → i < length xs → u ≡ get_or xs i u
      → (all_beside done (take (i + 1) xs)).size
      ≡ (all_beside done (take i xs)).size + (used_extent done u).size
  size_more xs i u lt e =
      let more : take (i + 1) xs ≡ take i xs ++ u ∷ [] =
      take_more xs i u lt ∙ ap (λ (v : TypeUse). take i xs ++ v ∷ []) (sym e) in
      let here = size_append (take i xs) (u ∷ []) in
      ap (λ (ys : List TypeUse). (all_beside done ys).size) more ∙ omega arith

  pub depth_more : (xs : List TypeUse) (i : ℕ) (u : TypeUse) → i < length xs → u ≡ get_or xs i u
      → (all_beside done (take (i + 1) xs)).depth
      ≡ max (all_beside done (take i xs)).depth (used_extent done u).depth
  depth_more xs i u lt e =
      let more : take (i + 1) xs ≡ take i xs ++ u ∷ [] =
      take_more xs i u lt ∙ ap (λ (v : TypeUse). take i xs ++ v ∷ []) (sym e) in
      let here = depth_append (take i xs) (u ∷ []) in
      ap (λ (ys : List TypeUse). (all_beside done ys).depth) more ∙ omega arith

  pub size_front : (xs : List TypeUse) (i : ℕ)
      → (all_beside done (take i xs)).size ≤ (all_beside done xs).size
  size_front xs i =
      let h = size_append (take i xs) (drop i xs) in
      let e = ap (λ (ys : List TypeUse). (all_beside done ys).size) (take-append-drop i xs) in
      omega arith

  pub depth_front : (xs : List TypeUse) (i : ℕ)
      → (all_beside done (take i xs)).depth ≤ (all_beside done xs).depth
  depth_front xs i =
      let h = depth_append (take i xs) (drop i xs) in
      let e = ap (λ (ys : List TypeUse). (all_beside done ys).depth) (take-append-drop i xs) in
      omega arith

-- ---- Types, each by those before it

kept : (es : List TypeEl) (done : List Extent) (j : ℕ) → j < length done
    → get_or (extents_from done es) j no_nodes ≡ get_or done j no_nodes
unfolding extents_from
kept [] done j lt = refl
kept (e ∷ es) done j lt =
    kept es (done ++ extent_of done e ∷ []) j
    (omega (arith, length-append done (extent_of done e ∷ [])))
    ∙ get_or_append_left done (extent_of done e ∷ []) no_nodes j lt

-- those before k are done, and none is past the limits
pub record AreDone (types : List TypeEl) (done : List Extent) (k : ℕ) : Type 0 where
  pub few : k ≤ length types
  pub size : length done ≡ k
  pub rest : extents_from done (drop k types) ≡ extents_from [] types
  pub within : (j : ℕ) → j < k → is_within (get_or done j no_nodes) ≡ true

pub none_done : (types : List TypeEl) (done : List Extent) → done ≡ [] → AreDone types done 0
none_done types done e = record {
  few = omega arith;
  size = ap (λ (xs : List Extent). length xs) e;
  rest = ap (λ (xs : List Extent). extents_from xs types) e;
  within = λ j lt. absurd (omega arith);
}

next : (types : List TypeEl) (done : List Extent) (k : ℕ) (t : TypeEl) → k < length types
    → t ≡ get_or types k t → AreDone types done k
    → extents_from (done ++ extent_of done t ∷ []) (drop (k + 1) types) ≡ extents_from [] types
unfolding extents_from
next types done k t lt e h =
    let here : drop k types ≡ get_or types k t ∷ drop (suc k) types = drop-cons types k t lt in
    let on : suc k ≡ k + 1 = omega arith in
    sym (ap (λ (es : List TypeEl). extents_from done es)
    (here ∙ (λ i. sym e i ∷ drop (on i) types))) ∙ h.rest

-- a total's place k, once it is done
at_place : (types : List TypeEl) (done : List Extent) (k : ℕ) (t : TypeEl) → k < length types
    → t ≡ get_or types k t → AreDone types done k
    → get_or (extents_from [] types) k no_nodes ≡ extent_of done t
at_place types done k t lt e h =
    let size : k ≡ length done = sym h.size in
    ap (λ (xs : List Extent). get_or xs k no_nodes) (sym (next types done k t lt e h))
    ∙ kept (drop (k + 1) types) (done ++ extent_of done t ∷ []) k
    (omega (arith, length-append done (extent_of done t ∷ [])))
    ∙ ap (λ (n : ℕ). get_or (done ++ extent_of done t ∷ []) n no_nodes) size
    ∙ get_or-append_seam done (extent_of done t) [] no_nodes

before : (types : List TypeEl) (done : List Extent) (k j : ℕ) → j < k → AreDone types done k
    → is_within (get_or (extents_from [] types) j no_nodes) ≡ true
before types done k j lt h =
    ap is_within
    (ap (λ (xs : List Extent). get_or xs j no_nodes) (sym h.rest)
    ∙ kept (drop k types) done j (let s = h.size in omega arith))
    ∙ h.within j lt

pub past_here : (types : List TypeEl) (done : List Extent) (k : ℕ) (t : TypeEl) → k < length types
    → t ≡ get_or types k t → AreDone types done k → is_within (extent_of done t) ≡ false
    → FirstOf (λ j. is_within (get_or (extents_from [] types) j no_nodes) ≡ true) (length types)
    (Some k)
past_here types done k t lt e h past =
    let here : is_within (get_or (extents_from [] types) k no_nodes) ≡ false =
    ap is_within (at_place types done k t lt e h) ∙ past in
    (lt, (λ y. let n : true ≡ false = sym y ∙ here in cc), λ j less. before types done k j less h)

pub one_done : (types : List TypeEl) (done new : List Extent) (k : ℕ) (t : TypeEl) (x : Extent)
    → k < length types → t ≡ get_or types k t → AreDone types done k → x ≡ extent_of done t
    → is_within (extent_of done t) ≡ true → new ≡ done ++ x ∷ [] → AreDone types new (k + 1)
one_done types done new k t x lt e h is within to =
    let same : new ≡ done ++ extent_of done t ∷ [] =
    to ∙ ap (λ (y : Extent). done ++ y ∷ []) is in
    let long : length new ≡ k + 1 =
    ap (λ (xs : List Extent). length xs) same
    ∙ (let s = h.size in omega (arith, length-append done (extent_of done t ∷ []))) in
    let rest : extents_from new (drop (k + 1) types) ≡ extents_from [] types =
    ap (λ (xs : List Extent). extents_from xs (drop (k + 1) types)) same
    ∙ next types done k t lt e h in
    let at : (j : ℕ) → j < k + 1 → is_within (get_or new j no_nodes) ≡ true =
    λ j less. elim (cases_lt j k) [
      | inl l ↦ ap (λ (xs : List Extent). is_within (get_or xs j no_nodes)) same
          ∙ ap is_within (get_or_append_left done (extent_of done t ∷ []) no_nodes j
          (let s = h.size in omega arith))
          ∙ h.within j l
      | inr g ↦ (let size : j ≡ length done = (let s = h.size in omega arith) in
          ap (λ (xs : List Extent). is_within (get_or xs j no_nodes)) same
          ∙ ap (λ (n : ℕ). is_within (get_or (done ++ extent_of done t ∷ []) n no_nodes)) size
          ∙ ap is_within (get_or-append_seam done (extent_of done t) [] no_nodes) ∙ within)
    ] in
    record { few = omega arith; size = long; rest = rest; within = at }

pub all_done : (types : List TypeEl) (done : List Extent) (k : ℕ) → length types ≤ k
    → AreDone types done k
    → FirstOf (λ j. is_within (get_or (extents_from [] types) j no_nodes) ≡ true)
    (length types) None
all_done types done k le h = λ j lt. before types done k j (omega arith) h

pub limit_at : {E : Type 0} (x : File) (s : Section) (ts : List TypeEl) (r : Result (Option ℕ) E)
    → s ≡ Types → ts ≡ x.types
    → IfOk r (FirstOf (λ j. is_within (get_or (extents_from [] ts) j no_nodes) ≡ true) (length ts))
    → IfOk r (FirstOf (λ k. KeepsLimit x s k) (count_in x s))
limit_at x s ts r e is h =
    subst (λ (u : Section). IfOk r (FirstOf (λ k. KeepsLimit x u k) (count_in x u))) (sym e)
    (subst (λ (us : List TypeEl).
    IfOk r (FirstOf (λ j. is_within (get_or (extents_from [] us) j no_nodes) ≡ true) (length us)))
    is h)

-- ---- limits

module _ (done : List Extent) (xs : List TypeUse) (i : ℕ) (u : TypeUse) where
  pub past_size : (s : ℕ) → i < length xs → u ≡ get_or xs i u → s
      ≡ (all_beside done (take i xs)).size
      → 65536 < s + (used_extent done u).size → AreBeside (all_beside done xs) None
  past_size s lt e is past =
      let more = size_more done xs i u lt e in
      let front = size_front done xs (i + 1) in
      inl (omega arith)

  pub past_depth : i < length xs → u ≡ get_or xs i u → 256 < (used_extent done u).depth
      → AreBeside (all_beside done xs) None
  past_depth lt e past =
      let more = depth_more done xs i u lt e in
      let front = depth_front done xs (i + 1) in
      inr (omega arith)

same_at : (xs : List TypeUse) (i : ℕ) (d e : TypeUse) → i < length xs → get_or xs i d ≡ get_or xs i e
same_at [] i d e h = absurd (omega arith)
same_at (x ∷ xs) zero d e h = refl
same_at (x ∷ xs) (suc i) d e h = same_at xs i d e (omega arith)

-- a turn of the loop, by the extent x of the part at i
module _ (done : List Extent) (xs : List TypeUse) (i : ℕ) (d : TypeUse) (x : Extent)
    (lt : i < length xs) (is : x ≡ used_extent done (get_or xs i d)) where
  there : get_or xs i d ≡ get_or xs i (get_or xs i d)
  there = same_at xs i d (get_or xs i d) lt

  pub turn_size : (all_beside done (take (i + 1) xs)).size ≡ (all_beside done (take i xs)).size + x.size
  turn_size =
      let size_is = ap (λ (e : Extent). e.size) is in
      let more = size_more done xs i (get_or xs i d) lt there in omega arith

  pub turn_depth : (all_beside done (take (i + 1) xs)).depth
      ≡ max (all_beside done (take i xs)).depth x.depth
  turn_depth =
      let depth_is = ap (λ (e : Extent). e.depth) is in
      let more = depth_more done xs i (get_or xs i d) lt there in omega arith

  pub stops_big : (s : ℕ) → s ≡ (all_beside done (take i xs)).size → s ≤ 65536 → 65536 - s < x.size
      → AreBeside (all_beside done xs) None
  stops_big s e le past =
      let size_is = ap (λ (e : Extent). e.size) is in
      past_size done xs i (get_or xs i d) s lt there e (omega arith)

  pub stops_deep : 256 < x.depth → AreBeside (all_beside done xs) None
  stops_deep past =
      let depth_is = ap (λ (e : Extent). e.depth) is in
      past_depth done xs i (get_or xs i d) lt there (omega arith)

too_big : (e : Extent) → 65536 < e.size → is_within e ≡ false
too_big e past = at (nat_le e.size 65536) refl
  where
    at : (b : Bool) → nat_le e.size 65536 ≡ b → (b && nat_le e.depth 256) ≡ false
    at true h = absurd (let l = leb-true e.size 65536 h in omega arith)
    at false h = refl

too_deep : (e : Extent) → 256 < e.depth → is_within e ≡ false
too_deep e past = at (nat_le e.size 65536) (nat_le e.depth 256) refl
  where
    at : (a b : Bool) → nat_le e.depth 256 ≡ b → (a && b) ≡ false
    at true true h = absurd (let l = leb-true e.depth 256 h in omega arith)
    at true false h = refl
    at false b h = refl

pub above_past : (e : Extent) → AreBeside e None → IsWithin (above e) None
above_past e (inl big) = too_big (above e) (omega arith)
above_past e (inr deep) = too_deep (above e) (omega arith)

pub above_big : (e f : Extent) → f ≡ e → 65536 ≤ f.size → IsWithin (above e) None
above_big e f is big = too_big (above e) (let s = ap (λ (x : Extent). x.size) is in omega arith)

pub above_deep : (e f : Extent) → f ≡ e → 256 ≤ f.depth → IsWithin (above e) None
above_deep e f is deep = too_deep (above e) (let s = ap (λ (x : Extent). x.depth) is in omega arith)

fits : (e : Extent) → e.size ≤ 65536 → e.depth ≤ 256 → is_within e ≡ true
fits e small shallow = at (nat_le e.size 65536) (nat_le e.depth 256) refl refl
  where
    at : (a b : Bool) → nat_le e.size 65536 ≡ a → nat_le e.depth 256 ≡ b → (a && b) ≡ true
    at true true g h = refl
    at true false g h = absurd (let l = leb-false e.depth 256 h in omega arith)
    at false b g h = absurd (let l = leb-false e.size 65536 g in omega arith)

pub same_extent : (a b : Extent) → a.size ≡ b.size → a.depth ≡ b.depth → a ≡ b
same_extent a b s d = λ i. record { size = s i; depth = d i }

pub above_fits : (e f : Extent) → f ≡ e → f.size < 65536 → f.depth < 256
    → IsWithin (above e) (Some (record { size = 1 + f.size; depth = 1 + f.depth }))
above_fits e f is small shallow =
    let s = ap (λ (x : Extent). x.size) is in
    let d = ap (λ (x : Extent). x.depth) is in
    (ap above is, fits (above e) (omega arith) (omega arith))

pub beside_all : (done : List Extent) (xs : List TypeUse) (i s d : ℕ) → length xs ≤ i
    → s ≡ (all_beside done (take i xs)).size → d ≡ (all_beside done (take i xs)).depth
    → AreBeside (all_beside done xs) (Some (record { size = s; depth = d }))
beside_all done xs i s d le size depth =
    let all : take i xs ≡ xs = take_all i xs le in
    same_extent (record { size = s; depth = d }) (all_beside done xs)
    (size ∙ ap (λ (ys : List TypeUse). (all_beside done ys).size) all)
    (depth ∙ ap (λ (ys : List TypeUse). (all_beside done ys).depth) all)

pub of_parts : (done : List Extent) (parts : List TypeUse) (el : TypeEl) (o : Option Extent)
    → parts ≡ parts_of el
    → IsWithin (above (all_beside done parts)) o → IsWithin (extent_of done el) o
of_parts done parts el o e h =
    subst (λ (us : List TypeUse). IsWithin (above (all_beside done us)) o) e h

-- what is told of the Type t by the extents read
module _ (read done : List Extent) (t : TypeEl) (same : read ≡ done) where
  told : (r s : Option Extent) → IsWithin (extent_of read t) r → r ≡ s
      → IsWithin (extent_of done t) s
  told r s h is =
      subst (λ (xs : List Extent). IsWithin (extent_of xs t) s) same
      (subst (λ (o : Option Extent). IsWithin (extent_of read t) o) is h)

  pub told_past : (r : Option Extent) → IsWithin (extent_of read t) r → r ≡ None
      → is_within (extent_of done t) ≡ false
  told_past r h is = told r None h is

  pub told_is : (r : Option Extent) (x : Extent) → IsWithin (extent_of read t) r → r ≡ Some x
      → x ≡ extent_of done t
  told_is r x h is = (told r (Some x) h is).0

  pub told_within : (r : Option Extent) (x : Extent) → IsWithin (extent_of read t) r
      → r ≡ Some x → is_within (extent_of done t) ≡ true
  told_within r x h is = (told r (Some x) h is).1
