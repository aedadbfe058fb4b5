-- The elements of a section are read exactly from their spellings.
use Rattle.std.proofs.Common.{◌≡◌, ℕ, suc, List, [], ◌∷◌, Result, Ok, Err, refl}
use Rattle.std.specs.List.{AllByRecursion}
use Rattle.ui_frame.specs.Laws.{IsBytes}
use Rattle.ui_strpos.specs.Items.{spelling}
use Rattle.ui_strpos.specs.Reading.{Context, Fault}
use Rattle.ui_strpos.specs.Format.{Format, InGrammar, Lawful, element_in}
use Rattle.ui_strpos.specs.Whole.{element_again, element_found}
use Rattle.ui_file.specs.Files.{AllFrom, spelled_all, and_others, elements_from}
use Rattle.ui_file.specs.declared.bad.BadFile.{BadFile}

pub section_again : {A : Type 0} (f : Format A) (s : ℕ) (c : ℕ → Context) (k : ℕ) (xs : List A) → Lawful f → AllFrom (λ k a. InGrammar f (c k) a) k xs → elements_from f s c k (spelled_all f xs) ≡ Ok xs
section_again f s c k [] law h = refl
section_again f s c k (x ∷ xs) law h =
    (λ i. and_others s k (element_again f (c k) x (spelling (f.items x)) law h.0 refl i) (section_again f s c (suc k) xs law h.1 i))

both_ok : {A : Type 0} (s k : ℕ) (r : Result A Fault) (others : Result (List A) BadFile) (xs : List A) → and_others s k r others ≡ Ok xs → (x : A) × (ys : List A) × (r ≡ Ok x) × (others ≡ Ok ys) × (x ∷ ys ≡ xs)
both_ok s k (Ok x) (Ok ys) xs e = (x, ys, refl, refl, cc)
both_ok s k (Ok x) (Err d) xs e = absurd cc
both_ok s k (Err d) others xs e = absurd cc

pub section_found : {A : Type 0} (f : Format A) (s : ℕ) (c : ℕ → Context) (k : ℕ) (bs : List (List ℕ)) (xs : List A) → Lawful f → AllByRecursion IsBytes bs → elements_from f s c k bs ≡ Ok xs → (bs ≡ spelled_all f xs) × AllFrom (λ k a. InGrammar f (c k) a) k xs
section_found f s c k [] [] law bytes e = (refl, tt)
section_found f s c k [] (x ∷ xs) law bytes e = absurd cc
section_found f s c k (b ∷ bs) xs law bytes e =
    let p = both_ok s k (element_in f (c k) b) (elements_from f s c (suc k) bs) xs e in
    let one = element_found f (c k) p.0 b law bytes.0 p.2 in
    let rest = section_found f s c (suc k) bs p.1 law bytes.1 p.3 in
    rw (← p.4) ((λ i. one.1 i ∷ rest.0 i), (one.0, rest.1))
