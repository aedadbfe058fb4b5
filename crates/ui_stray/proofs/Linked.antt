-- What the roots reach by uses is what their numbers reach by links.
use Rattle.std.proofs.Common.{◌≡◌, ◌⊎◌, inl, inr, ℕ, zero, suc, ◌+◌, ◌<◌, ◌≤◌, List, [], ◌∷◌, map, length, take, get_or}
use Rattle.std.proofs.Common.{refl, sym, ap, subst, ◌∙◌, arith}
use Rattle.std.proofs.lemmas.Bool.{cases_order}
use Rattle.ui_frame.specs.Container.{Parts, section}
use Rattle.ui_frame.specs.Sections.{number_of}
use Rattle.ui_frame.specs.declared.section.Section.{Section}
use Rattle.ui_frame.specs.declared.section.Section.TheVariants.{Str, Meta, PosBase, Pkg, Name}
use Rattle.ui_frame.specs.declared.section.Section.TheVariants.{Types, Obj, ObjExt, ObjDict, Body}
use Rattle.ui_strpos.specs.Contexts.{count_is}
use Rattle.ui_strpos.specs.Items.{target}
use Rattle.ui_closure.specs.Reached as by_number
use Rattle.ui_file.specs.Rules.{In, uses_of, IsReached, root_, onward, its_name, its_extension, its_dictionary}
use Rattle.ui_file.specs.declared.file.File.{File}
use Rattle.ui_file_rules.specs.First.{section_at}
use Rattle.ui_file_rules.proofs.Places.{section-back}
use Rattle.ui_stray.specs.Links.{total, before, number_in}

-- the sections beside Obj
abbrev pub IsBeside : Section → Type 0
IsBeside Name = Unit {0}
IsBeside ObjExt = Unit {0}
IsBeside ObjDict = Unit {0}
IsBeside s = ⊥

-- an element leads to what it uses, and an Obj to the elements of its number beside it
abbrev pub Leads : File → Section → ℕ → Section → ℕ → Type 0
Leads x s k t i = In (uses_of x s k) (target (number_of t) i) ⊎ ((s ≡ Obj) × IsBeside t × (k ≡ i))

-- links and roots by numbers are those of the file
pub record AreLinks (parts : Parts) (x : File) (links : List (List ℕ))
    (roots : List ℕ) : Type 0 where
  pub roots_are : (k : ℕ) → k < 2 → by_number.In roots (number_in parts Meta k)
  pub roots_only : (j : ℕ) → by_number.In roots j → (k : ℕ) × (k < 2) × (j ≡ number_in parts Meta k)
  pub two : length (section Meta parts) ≡ 2
  pub within : (s : Section) (k : ℕ) (t : Section) (i : ℕ) → k < length (section s parts)
      → Leads x s k t i → i < length (section t parts)
  pub links_are : (s : Section) (k : ℕ) (t : Section) (i : ℕ) → k < length (section s parts)
      → Leads x s k t i → by_number.In (by_number.links_at links (number_in parts s k))
      (number_in parts t i)
  pub links_only : (s : Section) (k j : ℕ) → k < length (section s parts)
      → by_number.In (by_number.links_at links (number_in parts s k)) j
      → (t : Section) × (i : ℕ) × Leads x s k t i × (j ≡ number_in parts t i)

-- ---- numbers of elements are their own

pub later : (cs : List ℕ) (n m : ℕ) → n < m → total (take n cs) + get_or cs n 0 ≤ total (take m cs)
later [] zero m h = omega arith
later [] (suc n) zero h = absurd (omega arith)
later [] (suc n) (suc m) h = omega arith
later (c ∷ cs) zero zero h = absurd (omega arith)
later (c ∷ cs) zero (suc m) h =
    let e : total (take (suc m) (c ∷ cs)) ≡ c + total (take m cs) = refl in
    let f : get_or (c ∷ cs) zero 0 ≡ c = refl in
    let z : total (take zero (c ∷ cs)) ≡ 0 = refl in
    omega arith
later (c ∷ cs) (suc n) zero h = absurd (omega arith)
later (c ∷ cs) (suc n) (suc m) h =
    let e : total (take (suc m) (c ∷ cs)) ≡ c + total (take m cs) = refl in
    let f : total (take (suc n) (c ∷ cs)) ≡ c + total (take n cs) = refl in
    let g : get_or (c ∷ cs) (suc n) 0 ≡ get_or cs n 0 = refl in
    let r : total (take n cs) + get_or cs n 0 ≤ total (take m cs) = later cs n m (omega arith) in
    omega arith

module _ (parts : Parts) where
  -- the elements of a section end before those of a later one
  pub ends : (s : Section) (m : ℕ) → number_of s < m
      → before parts (number_of s) + length (section s parts) ≤ before parts m
  ends s m less =
      let l = later (map length parts) (number_of s) m less in
      let c = count_is parts s in
      omega arith

  apart : (s t : Section) (k i : ℕ) → k < length (section s parts) → number_of s < number_of t
      → number_in parts s k ≡ number_in parts t i → ⊥
  apart s t k i lt less e = let l = ends s (number_of t) less in omega arith

  pub same-place : (s t : Section) (k i : ℕ) → k < length (section s parts)
      → i < length (section t parts)
      → number_in parts s k ≡ number_in parts t i → (s ≡ t) × (k ≡ i)
  same-place s t k i lt lu e = elim (cases_order (number_of s) (number_of t)) [
    | inl same ↦ (
        let st : s ≡ t = sym (section-back s) ∙ ap section_at same ∙ section-back t in (
          st,
          plus (before parts (number_of s)) (before parts (number_of t)) k i
              (ap (before parts) same) e,
        )
        )
    | inr other ↦ elim other [
      | inl l ↦ absurd (apart s t k i lt l e)
      | inr g ↦ absurd (apart t s i k lu g (sym e))
    ]
  ]
    where
      plus : (a b k i : ℕ) → a ≡ b → a + k ≡ b + i → k ≡ i
      plus a b k i e f = omega arith

  -- ---- what the roots reach is what the numbers reach

  module _ (x : File) (links : List (List ℕ)) (roots : List ℕ)
      (are : AreLinks parts x links roots) where
    abbrev Both : Section → ℕ → Type 0
    Both s k = (k < length (section s parts))
        × by_number.IsReached links roots (number_in parts s k)

    step : (s : Section) (k : ℕ) (t : Section) (i : ℕ) → Leads x s k t i → Both s k → Both t i
    step s k t i l p = (
      are.within s k t i p.0 l,
      by_number.onward p.1
          (are.links_are s k t i p.0 l),
    )

    pub to-numbers : {s : Section} {k : ℕ} → IsReached x s k → Both s k
    to-numbers (root_ k lt) = (
      (let m = are.two in omega arith),
      by_number.at_root
          (are.roots_are k lt),
    )
    to-numbers (onward {s = s} {k = k} u i r m) = step s k u i (inl m) (to-numbers r)
    to-numbers (its_name {k = k} r) = step Obj k Name k (inr (refl, tt, refl)) (to-numbers r)
    to-numbers (its_extension {k = k} r) = step Obj k ObjExt k (inr (refl, tt, refl)) (to-numbers r)
    to-numbers (its_dictionary {k = k} r) = step Obj k ObjDict k (inr (refl, tt, refl))
        (to-numbers r)

    beside : (s : Section) (k : ℕ) (t : Section) → IsBeside t → s ≡ Obj → IsReached x s k
        → IsReached x t k
    beside s k Str b e r = absurd b
    beside s k Meta b e r = absurd b
    beside s k PosBase b e r = absurd b
    beside s k Pkg b e r = absurd b
    beside s k Name b e r = its_name (subst (λ (u : Section). IsReached x u k) e r)
    beside s k Types b e r = absurd b
    beside s k Obj b e r = absurd b
    beside s k ObjExt b e r = its_extension (subst (λ (u : Section). IsReached x u k) e r)
    beside s k ObjDict b e r = its_dictionary (subst (λ (u : Section). IsReached x u k) e r)
    beside s k Body b e r = absurd b

    led : (s : Section) (k : ℕ) (t : Section) (i : ℕ) → IsReached x s k → Leads x s k t i
        → IsReached x t i
    led s k t i r l = elim l [
      | inl m ↦ onward t i r m
      | inr b ↦ subst (λ (j : ℕ). IsReached x t j) b.2 (beside s k t b.1 b.0 r)
    ]

    -- an element of this number that is reached
    record Stands (j : ℕ) : Type 0 where
      at : Section
      place : ℕ
      there : place < length (section at parts)
      is : j ≡ number_in parts at place
      reached : IsReached x at place

    from-numbers : {j : ℕ} → by_number.IsReached links roots j → Stands j
    from-numbers (by_number.at_root {k = j} m) =
        let p = are.roots_only j m in
        record {
          at = Meta;
          place = p.0;
          there =
              (let t = are.two in let l = p.1 in omega arith);
          is = p.2;
          reached = root_ p.0 p.1;
        }
    from-numbers (by_number.onward {j = j} {k = i} r m) = next (from-numbers r)
      where
        next : Stands j → Stands i
        next s =
            let q = are.links_only s.at s.place i s.there
            (subst (λ (n : ℕ). by_number.In (by_number.links_at links n) i) s.is m) in
            record {
              at = q.0;
              place = q.1;
              there = are.within s.at s.place q.0 q.1 s.there q.2;
              is = q.3;
              reached = led s.at s.place q.0 q.1 s.reached q.2;
            }

    pub by-numbers : (s : Section) (k : ℕ) → k < length (section s parts)
        → by_number.IsReached links roots (number_in parts s k) → IsReached x s k
    by-numbers s k lt r =
        let p = from-numbers r in
        let q = same-place p.at s p.place k p.there lt (sym p.is) in
        subst (λ (j : ℕ). IsReached x s j) q.1
        (subst (λ (u : Section). IsReached x u p.place) q.0 p.reached)
