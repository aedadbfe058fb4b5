-- The loops over sections.
use Rattle.std.proofs.Common.{◌≡◌, inl, inr, ℕ, zero, suc, ◌+◌, ◌-◌, ◌*◌, ◌<◌, ◌≤◌, ◌^◌}
use Rattle.std.proofs.Common.{List, [], ◌∷◌, ◌++◌, map, length, take, get_or}
use Rattle.std.proofs.Common.{refl, sym, ap, subst, ◌∙◌, arith, append_assoc}
use Rattle.std.specs.List.{range_with_len}
use Rattle.std.proofs.Math.Seq.{get_or-append_seam}
use Rattle.std.proofs.lemmas.Bool.{cases_lt}
use Rattle.std.proofs.lemmas.List.{get_or_append_left, get_or-append-add, length-append}
use Rattle.std.proofs.lemmas.List.FromFn.{length-map-range_with_len, get_or-map-range_with_len, map-range_with_len_more}
use Rattle.ui_frame.specs.Container.{Parts, section}
use Rattle.ui_frame.specs.Sections.{number_of}
use Rattle.ui_frame.specs.declared.section.Section.{Section}
use Rattle.ui_strpos.specs.Contexts.{count_is}
use Rattle.ui_file_rules.specs.First.{section_at}
use Rattle.ui_file_rules.proofs.Places.{section-back, number-at, below-ten}
use Rattle.ui_stray.specs.Links.{total, before, number_in, AreStarts, AreLinked, links_of, section_links}
use Rattle.ui_stray.proofs.Linked.{ends}
use Rattle.ui_stray.proofs.Built.{next_total}

module _ (parts : Parts) where
  before_next : (n : ℕ) → n < 10
      → before parts (n + 1) ≡ before parts n + length (section (section_at n) parts)
  before_next n lt =
      let c = count_is parts (section_at n) in
      let d = ap (λ (i : ℕ). get_or (map length parts) i 0) (number-at n lt) in
      let next = next_total (map length parts) n in
      let on : n + 1 ≡ suc n = omega arith in
      let more : before parts (suc n)
      ≡ before parts n + length (section (section_at n) parts) = omega arith in
      ap (before parts) on ∙ more

  -- the starts of the first n sections
  pub record AreStarted (starts : List ℕ) (sum n : ℕ) : Type 0 where
    pub size : length starts ≡ n
    pub few : n ≤ 10
    pub at : (m : ℕ) → m < n → get_or starts m 0 ≡ before parts m
    pub so_far : sum ≡ before parts n
    pub small : sum ≤ n * 2 ^ 32

  pub none_started : (starts : List ℕ) → starts ≡ [] → AreStarted starts 0 0
  none_started starts e = record {
    size = ap (λ (xs : List ℕ). length xs) e;
    few = omega arith;
    at = λ m lt. absurd (omega arith);
    so_far = none (map length parts);
    small = omega arith;
  }
    where
      none : (cs : List ℕ) → 0 ≡ total (take zero cs)
      none [] = refl
      none (c ∷ cs) = refl

  pub one_started : (starts new : List ℕ) (sum count n : ℕ) → n < 10 → AreStarted starts sum n
      → count ≡ length (section (section_at n) parts) → count < 2 ^ 32 → new ≡ starts ++ sum ∷ []
      → AreStarted new (sum + count) (n + 1)
  one_started starts new sum count n lt h c small is =
      let long : length new ≡ n + 1 =
      ap (λ (xs : List ℕ). length xs) is
      ∙ (let s = h.size in omega (arith, length-append starts (sum ∷ []))) in
      let here : get_or (starts ++ sum ∷ []) n 0 ≡ before parts n =
      ap (λ (m : ℕ). get_or (starts ++ sum ∷ []) m 0) (sym h.size)
      ∙ get_or-append_seam starts sum [] 0 ∙ h.so_far in
      let next = before_next n lt in
      record {
        size = long;
        few = omega arith;
        at = λ m less. ap (λ (xs : List ℕ). get_or xs m 0) is ∙ elim (cases_lt m n) [
          | inl l ↦ get_or_append_left starts (sum ∷ []) 0 m (let s = h.size in omega arith)
              ∙ h.at m l
          | inr g ↦ (let same : m ≡ n = omega arith in
              ap (λ (i : ℕ). get_or (starts ++ sum ∷ []) i 0) same ∙ here
              ∙ ap (before parts) (sym same))
        ];
        so_far = (let e = h.so_far in omega arith);
        small = (let e = h.small in omega arith);
      }

  pub all_started : (starts : List ℕ) (sum n : ℕ) → 10 ≤ n → AreStarted starts sum n
      → AreStarts parts starts
  all_started starts sum n le h =
      let is : n ≡ 10 = (let f = h.few in omega arith) in
      let whole : sum ≡ before parts 10 = h.so_far ∙ ap (before parts) is in
      record { at = λ m lt. h.at m (omega arith); small = (let s = h.small in omega arith) }

  -- ---- links of the first sections

  module _ (starts : List ℕ) where
    pub none_linked : (links : List (List ℕ)) → links ≡ [] → AreLinked starts parts 0 links
    none_linked links e = record {
      size = ap (λ (xs : List (List ℕ)). length xs) e ∙ none (map length parts);
      at = λ s k lt less. absurd (omega arith);
    }
      where
        none : (cs : List ℕ) → 0 ≡ total (take zero cs)
        none [] = refl
        none (c ∷ cs) = refl

    pub more_linked : (links new : List (List ℕ)) (n : ℕ) → n < 10 → AreLinked starts parts n links
        → new ≡ links ++ section_links starts parts (section_at n)
        → AreLinked starts parts (n + 1) new
    more_linked links new n lt h is =
        let t : Section = section_at n in
        let many : ℕ = length (section t parts) in
        let own : List (List ℕ) = section_links starts parts t in
        let size = h.size in
        let long : length own ≡ many = length-map-range_with_len (links_of starts parts t) 0 many in
        let next = before_next n lt in
        record {
          size =
              ap (λ (xs : List (List ℕ)). length xs) is
              ∙ (let l = length-append links own in omega arith);
          at = λ s k less there. ap (λ (xs : List (List ℕ)). get_or xs (number_in parts s k) []) is
              ∙ elim (cases_lt (number_of s) n) [
                | inl l ↦ get_or_append_left links own [] (number_in parts s k)
                    (let e = ends parts s n l in omega arith) ∙ h.at s k l there
                | inr g ↦ (
                    let at : number_of s ≡ n = omega arith in
                    let same : t ≡ s = ap section_at (sym at) ∙ section-back s in
                    let place : number_in parts s k ≡ length links + k =
                    (let b = ap (before parts) at in omega arith) in
                    let fits : k < many = subst (λ (u : Section). k < length (section u parts))
                    (sym same) there in
                    ap (λ (i : ℕ). get_or (links ++ own) i []) place
                    ∙ get_or-append-add links own k []
                    ∙ get_or-map-range_with_len (links_of starts parts t) 0 many k k [] fits
                    (omega arith)
                    ∙ ap (λ (u : Section). links_of starts parts u k) same
                    )
              ];
        }

    pub all_linked : (links : List (List ℕ)) (n : ℕ) → 10 ≤ n → n ≤ 10
        → AreLinked starts parts n links
        → AreLinked starts parts 10 links
    all_linked links n le ge h =
        let is : n ≡ 10 = omega arith in
        subst (λ (m : ℕ). AreLinked starts parts m links) is h
