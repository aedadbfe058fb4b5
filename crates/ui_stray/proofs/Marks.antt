-- The marks of elements are those that the file's roots reach.
use Rattle.std.proofs.Common.{◌≡◌, ℕ, ◌<◌, Bool, true, false, List, length, get_or}
use Rattle.std.proofs.Common.{refl, sym, ap, subst, ◌∙◌, Option, Some, None, Result, Ok, Err}
use Rattle.std.proofs.Common.{Vec, Global}
use Rattle.std.specs.Prelude.{IfOk}
use Rattle.ui_frame.specs.Container.{Parts, section}
use Rattle.ui_frame.specs.declared.section.Section.{Section}
use Rattle.ui_closure.specs.Reached as by_number
use Rattle.ui_file.specs.Rules.{IsReached, count_in}
use Rattle.ui_file.specs.declared.file.File.{File}
use Rattle.ui_file_rules.specs.First.{Gives}
use Rattle.ui_file_rules.specs.declared.rule.Place.{Place}
use Rattle.ui_file_rules.proofs.Places.{gives-same}
use Rattle.ui_sections.specs.Spelled.{IsSpelled}
use Rattle.ui_stray.specs.Links.{before, number_in, AreStarts, AreLinked, roots_by}
use Rattle.ui_stray.specs.Marks.{AreReached}
use Rattle.ui_stray.proofs.Linked.{to-numbers, by-numbers}
use Rattle.ui_stray.proofs.Built.{are_links, links_within, roots_within, same_count}

module _ (parts : Parts) (starts : List ℕ) (started : AreStarts parts starts)
    (links : List (List ℕ))
    (linked : AreLinked starts parts 10 links) (lent : List (List ℕ)) (are : lent ≡ links)
    (roots : List ℕ)
    (of : roots ≡ roots_by starts) where
  size : length lent ≡ before parts 10
  size = ap (λ (ls : List (List ℕ)). length ls) are ∙ linked.size

  pub links_fit : (x : File) → IsSpelled parts x → (k : ℕ)
      → by_number.AreWithin (length lent) (by_number.links_at lent k)
  links_fit x h k =
      subst (λ (n : ℕ). by_number.AreWithin n (by_number.links_at lent k)) (sym size)
      (subst (λ (ls : List (List ℕ)). by_number.AreWithin (before parts 10)
      (by_number.links_at ls k)) (sym are)
      (links_within parts x h starts started links linked k))

  pub roots_fit : (x : File) → IsSpelled parts x → by_number.AreWithin (length lent) roots
  roots_fit x h =
      subst (λ (n : ℕ). by_number.AreWithin n roots) (sym size)
      (subst (λ (rs : List ℕ). by_number.AreWithin (before parts 10) rs) (sym of)
      (roots_within parts x h starts started links linked))

  pub marks_size : (n : ℕ) → n ≡ length lent → n ≡ before parts 10
  marks_size n e = e ∙ size

  pub marks_are : (marks : List Bool)
      → ((k : ℕ) → get_or marks k false ≡ true → by_number.IsReached lent roots k)
      → ((k : ℕ) → by_number.IsReached lent roots k → get_or marks k false ≡ true)
      → (x : File) → IsSpelled parts x → AreReached parts x marks
  marks_are marks only all x h =
      let linked_as = are_links parts x h starts started links linked in
      let to : (k : ℕ) → by_number.IsReached lent roots k
      → by_number.IsReached links (roots_by starts) k =
      λ k r. subst (λ (ls : List (List ℕ)). by_number.IsReached ls (roots_by starts) k) are
      (subst (λ (rs : List ℕ). by_number.IsReached lent rs k) of r) in
      let from : (k : ℕ) → by_number.IsReached links (roots_by starts) k
      → by_number.IsReached lent roots k =
      λ k r. subst (λ (rs : List ℕ). by_number.IsReached lent rs k) (sym of)
      (subst (λ (ls : List (List ℕ)). by_number.IsReached ls (roots_by starts) k) (sym are) r) in
      record {
        only = λ s k lt m. by-numbers parts x links (roots_by starts) linked_as s k lt
            (to _ (only _ m));
        all = λ s k r. all _ (from _ (to-numbers parts x links (roots_by starts) linked_as r).1);
      }

  pub marks_told : {E : Type 0} (r : Result (Vec Bool Global) E)
      → IfOk r (λ m. (k : ℕ) → get_or m.items k false ≡ true → by_number.IsReached lent roots k)
      → IfOk r (λ m. (k : ℕ) → by_number.IsReached lent roots k → get_or m.items k false ≡ true)
      → IfOk r (λ m. (x : File) → IsSpelled parts x → AreReached parts x m.items)
  marks_told (Ok m) only all = marks_are m.items only all
  marks_told (Err e) only all = only

-- the first that isn't marked is the first that isn't reached
pub stray_told : {E : Type 0} (parts : Parts) (x : File) (marks lent : List Bool)
    (r : Result (Option Place) E)
    → IsSpelled parts x → AreReached parts x marks → lent ≡ marks
    → IfOk r (Gives (λ s k. get_or lent (number_in parts s k) false ≡ true)
    (λ s. length (section s parts)))
    → IfOk r (Gives (IsReached x) (count_in x))
stray_told parts x marks lent (Err e) h reached is g = g
stray_told parts x marks lent (Ok o) h reached is g =
    counted o
    (gives-same (λ s k. get_or lent (number_in parts s k) false ≡ true) (IsReached x)
    (λ s. length (section s parts))
    (λ s k lt m. reached.only s k lt
    (ap (λ (bs : List Bool). get_or bs (number_in parts s k) false) (sym is) ∙ m))
    (λ s k lt r. ap (λ (bs : List Bool). get_or bs (number_in parts s k) false) is
    ∙ reached.all s k r) o g)
  where
    same : (s : Section) → length (section s parts) ≡ count_in x s
    same s = same_count parts x h s

    counted : (o : Option Place) → Gives (IsReached x) (λ s. length (section s parts)) o
        → Gives (IsReached x) (count_in x) o
    counted None f = λ s k lt. f s k (subst (λ (n : ℕ). k < n) (sym (same s)) lt)
    counted (Some p) f = record {
      there = subst (λ (n : ℕ). p.element < n) (same p.section) f.there;
      here = f.here;
      before = λ s k lt b. f.before s k (subst (λ (n : ℕ). k < n) (sym (same s)) lt) b;
    }
