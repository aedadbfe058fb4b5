-- Numbers that are appended, one list after another.
use Rattle.std.proofs.Common.{◌≡◌, ℕ, ◌+◌, ◌<◌, ◌≤◌, Bool, true, false, List, [], ◌∷◌, ◌++◌, map, length, get_or}
use Rattle.std.proofs.Common.{refl, sym, ap, subst, ◌∙◌, arith, append_assoc, Option, Some, None}
use Rattle.std.specs.Prelude.{zero, suc, slice_get}
use Rattle.std.specs.List.{range_with_len}
use Rattle.std.proofs.lemmas.List.{append-nil, map-append}
use Rattle.std.proofs.lemmas.List.FromFn.{map-range_with_len_more}
use Rattle.ui_frame.specs.Container.{Parts, section}
use Rattle.ui_frame.specs.Sections.{number_of}
use Rattle.ui_frame.specs.declared.section.Section.{Section}
use Rattle.ui_frame.specs.declared.section.Section.TheVariants.{Str, Meta, PosBase, Pkg, Name}
use Rattle.ui_frame.specs.declared.section.Section.TheVariants.{Types, Obj, ObjExt, ObjDict, Body}
use Rattle.ui_strpos.specs.Items.{target}
use Rattle.ui_strpos.specs.declared.target.Target.{Target}
use Rattle.ui_file_rules.specs.First.{FirstOf}
use Rattle.ui_file_rules.proofs.Places.{below-ten}
use Rattle.ui_stray.specs.Links.{before, number_in, AreStarts, table_at, target_number}
use Rattle.ui_stray.specs.Links.{targets_at, targets_beside, links_of, section_links}
use Rattle.ui_stray.proofs.Linked.{ends}
use Rattle.ui_stray.proofs.Tables.{no_bytes}

nothing_there : (xs : List (List ℕ)) (k : ℕ) → None ≡ slice_get xs k → get_or xs k [] ≡ []
nothing_there [] k e = refl
nothing_there (x ∷ xs) zero e = absurd cc
nothing_there (x ∷ xs) (suc k) e = nothing_there xs k e

module _ (f : Target → ℕ) where
  -- there is no such element
  pub no_element : (old : List ℕ) (xs : List (List ℕ)) (k : ℕ) → None ≡ slice_get xs k
      → old ≡ old ++ map f (table_at (get_or xs k []))
  no_element old xs k e =
      sym (append-nil old)
      ∙ ap (λ (ts : List Target). old ++ map f ts)
      (sym (ap table_at (nothing_there xs k e) ∙ no_bytes))

  pub text_uses : (s : Section) (old bytes : List ℕ) → s ≡ Str → old
      ≡ old ++ map f (targets_at s bytes)
  text_uses s old bytes e =
      subst (λ (u : Section). old ≡ old ++ map f (targets_at u bytes)) (sym e)
      (sym (append-nil old))

  other : (s : Section) (bytes : List ℕ) → (s ≡ Str → ⊥) → table_at bytes ≡ targets_at s bytes
  other Str bytes n = absurd (n refl)
  other Meta bytes n = refl
  other PosBase bytes n = refl
  other Pkg bytes n = refl
  other Name bytes n = refl
  other Types bytes n = refl
  other Obj bytes n = refl
  other ObjExt bytes n = refl
  other ObjDict bytes n = refl
  other Body bytes n = refl

  pub other_uses : (s : Section) (old new bytes : List ℕ) → (s ≡ Str → ⊥)
      → new ≡ old ++ map f (table_at bytes) → new ≡ old ++ map f (targets_at s bytes)
  other_uses s old new bytes n e = e ∙ ap (λ (ts : List Target). old ++ map f ts) (other s bytes n)

  pub object_beside : (s : Section) (k : ℕ) (old new : List ℕ) → s ≡ Obj
      → new ≡ old ++ map f (targets_beside Obj k) → new ≡ old ++ map f (targets_beside s k)
  object_beside s k old new e h =
      subst (λ (u : Section). new ≡ old ++ map f (targets_beside u k)) (sym e) h

  nothing : (s : Section) (k : ℕ) → (s ≡ Obj → ⊥) → [] ≡ targets_beside s k
  nothing Str k n = refl
  nothing Meta k n = refl
  nothing PosBase k n = refl
  nothing Pkg k n = refl
  nothing Name k n = refl
  nothing Types k n = refl
  nothing Obj k n = absurd (n refl)
  nothing ObjExt k n = refl
  nothing ObjDict k n = refl
  nothing Body k n = refl

  pub none_beside : (s : Section) (k : ℕ) (old : List ℕ) → (s ≡ Obj → ⊥) → old
      ≡ old ++ map f (targets_beside s k)
  none_beside s k old n =
      sym (append-nil old) ∙ ap (λ (ts : List Target). old ++ map f ts) (nothing s k n)

  pub both_put : (old one two : List ℕ) (xs ys : List Target) → old ≡ [] → one ≡ old ++ map f xs
      → two ≡ one ++ map f ys → two ≡ map f (xs ++ ys)
  both_put old one two xs ys e g h =
      h ∙ ap (λ (ns : List ℕ). ns ++ map f ys) (g ∙ ap (λ (ns : List ℕ). ns ++ map f xs) e)
      ∙ sym (map-append f xs ys)

-- the links of a section, row by row
module _ (starts : List ℕ) (parts : Parts) (s : Section) where
  abbrev rows : ℕ → List (List ℕ)
  rows k = map (links_of starts parts s) (range_with_len 0 k)

  pub one_row : (first so_far new : List (List ℕ)) (row : List ℕ) (k : ℕ) → so_far ≡ first ++ rows k
      → row ≡ links_of starts parts s k → new ≡ so_far ++ row ∷ [] → new ≡ first ++ rows (k + 1)
  one_row first so_far new row k e r h =
      h ∙ (λ i. e i ++ r i ∷ []) ∙ append_assoc first (rows k) (links_of starts parts s k ∷ [])
      ∙ ap (λ (more : List (List ℕ)). first ++ more)
      (sym (map-range_with_len_more (links_of starts parts s) 0 k k (omega arith)))

  pub all_rows : (first whole : List (List ℕ)) (k : ℕ) → k ≡ length (section s parts) → whole
      ≡ first ++ rows k
      → whole ≡ first ++ section_links starts parts s
  all_rows first whole k e h = h ∙ ap (λ (n : ℕ). first ++ rows n) e

-- marks of a section
module _ (parts : Parts) (starts : List ℕ) (marks : List Bool) (s : Section) (from many : ℕ) where
  from_is : AreStarts parts starts → from ≡ get_or starts (number_of s) 0 → from
      ≡ before parts (number_of s)
  from_is started e = e ∙ started.at (number_of s) (below-ten s)

  pub marks_fit : AreStarts parts starts → length marks ≡ before parts 10
      → from ≡ get_or starts (number_of s) 0 → many ≡ length (section s parts)
      → from + many ≤ length marks
  marks_fit started long e m =
      let f = from_is started e in
      let end = ends parts s 10 (below-ten s) in
      omega arith

  pub first_at : (o : Option ℕ) → AreStarts parts starts → from ≡ get_or starts (number_of s) 0
      → many ≡ length (section s parts) → FirstOf (λ k. get_or marks (from + k) false ≡ true) many o
      → FirstOf (λ k. get_or marks (number_in parts s k) false ≡ true) (length (section s parts)) o
  first_at o started e m h =
      subst (λ (n : ℕ). FirstOf (λ k. get_or marks (n + k) false ≡ true)
      (length (section s parts)) o)
      (from_is started e)
      (subst (λ (n : ℕ). FirstOf (λ k. get_or marks (from + k) false ≡ true) n o) m h)
