-- The first elements of a section, one by one.
use Rattle.std.proofs.Common.{◌≡◌, ℕ, suc, ◌+◌, ◌<◌, ◌≤◌, List, [], ◌∷◌, ◌++◌, length, take}
use Rattle.std.proofs.Common.{sym, ap, subst, ◌∙◌, arith, take_all}
use Rattle.std.proofs.lemmas.List.{take_more, map-append, length-append}
use Rattle.ui_frame.specs.Container.{Parts, section}
use Rattle.ui_frame.specs.declared.section.Section.{Section}
use Rattle.ui_strpos.specs.Contexts.{context}
use Rattle.ui_strpos.specs.Format.{Format, InGrammar}
use Rattle.ui_strpos.specs.Items.{spelling}
use Rattle.ui_strpos.specs.declared.shape.Shape.{Shape}
use Rattle.ui_file.specs.Files.{AllFrom, spelled_all}
use Rattle.ui_sections.specs.Spelled.{IsElement, IsSection}

-- the first k elements of a section
pub record AreFirst {A : Type 0} (f : Format A) (s : Section) (shape : ℕ → Shape) (parts : Parts)
    (xs : List A) (k : ℕ) : Type 0 where
  pub many : length xs ≡ k
  pub few : k ≤ length (section s parts)
  pub grammar : AllFrom (λ j a. InGrammar f (context j (shape j) parts) a) 0 xs
  pub bytes : take k (section s parts) ≡ spelled_all f xs

all_more : {A : Type 0} (P : ℕ → A → Type 0) (k : ℕ) (xs : List A) (x : A)
    → AllFrom P k xs → P (k + length xs) x → AllFrom P k (xs ++ x ∷ [])
all_more P k [] x h p = (subst (λ (n : ℕ). P n x) (omega arith) p, tt)
all_more P k (y ∷ ys) x h p =
    (h.0, all_more P (suc k) ys x h.1 (subst (λ (n : ℕ). P n x) (omega arith) p))

module _ {A : Type 0} (f : Format A) (s : Section) (shape : ℕ → Shape) (parts : Parts) where
  pub none_first : (xs : List A) → xs ≡ [] → AreFirst f s shape parts xs 0
  none_first xs e = record {
    many = ap (λ (ys : List A). length ys) e;
    few = omega arith;
    grammar = subst (λ (ys : List A). AllFrom
        (λ j a. InGrammar f (context j (shape j) parts) a) 0 ys) (sym e) tt;
    bytes = ap (λ (ys : List A). spelled_all f ys) (sym e);
  }

  pub one_more : (xs new : List A) (k : ℕ) (x : A) → k < length (section s parts)
      → AreFirst f s shape parts xs k → IsElement f s (shape k) parts k x → new ≡ xs ++ x ∷ []
      → AreFirst f s shape parts new (k + 1)
  one_more xs new k x lt h e is =
      let at : k ≡ 0 + length xs = (let m = h.many in omega arith) in
      let here : InGrammar f (context (0 + length xs) (shape (0 + length xs)) parts) x =
      subst (λ (n : ℕ). InGrammar f (context n (shape n) parts) x) at e.0 in
      let long : length (xs ++ x ∷ []) ≡ k + 1 =
      (let m = h.many in omega (arith, length-append xs (x ∷ []))) in
      let all = all_more (λ (j : ℕ) (a : A). InGrammar f (context j (shape j) parts) a) 0 xs x
      h.grammar here in
      let front : take (k + 1) (section s parts) ≡ spelled_all f (xs ++ x ∷ []) =
      take_more (section s parts) k [] lt
      ∙ (λ i. h.bytes i ++ e.1 i ∷ [])
      ∙ sym (map-append (λ (a : A). spelling (f.items a)) xs (x ∷ [])) in
      subst (λ (ys : List A). AreFirst f s shape parts ys (k + 1)) (sym is)
      (record { many = long; few = omega arith; grammar = all; bytes = front })

  pub all_first : (xs : List A) (k : ℕ) → length (section s parts) ≤ k
      → AreFirst f s shape parts xs k
      → IsSection f s shape parts xs
  all_first xs k le h = record {
    grammar = h.grammar;
    bytes = sym (take_all k (section s parts) le) ∙ h.bytes;
  }
