-- The loop over the elements of a section.
use Rattle.std.proofs.Common.{◌≡◌, ℕ, suc, ◌+◌, ◌<◌, ◌≤◌, List, [], ◌∷◌, ◌++◌, length, get_or, drop, Result, Ok, Err, refl, sym, ap, ◌∙◌, arith, append_assoc, drop-cons}
use Rattle.std.proofs.lemmas.List.{append-nil, drop_all}
use Rattle.ui_strpos.specs.Reading.{Context, Fault, Fails}
use Rattle.ui_strpos.specs.Format.{Format, element_in}
use Rattle.ui_strpos.specs.declared.fault.ElementFault.{ElementFault}
use Rattle.ui_strpos.specs.declared.fault.ElementFault.TheVariants as faults
use Rattle.ui_file.specs.Files.{and_others, one_placed, elements_from}
use Rattle.ui_file.specs.declared.bad.BadFile.{BadFile}
use Rattle.ui_sections.specs.Told.{FailsAs, at_place, with_front}
use Rattle.ui_sections.specs.declared.fault.ValidFault.{ValidFault}
use Rattle.ui_sections.specs.declared.fault.ValidFault.TheVariants as told

-- ---- one element

pub placed_value : {A : Type 0} (s k : ℕ) (x : A) (r : Result A Fault) → r ≡ Ok x
    → one_placed s k r ≡ Ok x
placed_value s k x r e = rw e refl

pub placed_fault : {A : Type 0} (s k : ℕ) (d : ElementFault) (r : Result A Fault) → Fails d r
    → FailsAs (at_place s k d) (one_placed s k r)
placed_fault s k faults.NoMemory r h = tt
placed_fault s k (faults.Bad o cause) r h = rw h refl

value_of : {A : Type 0} (s k : ℕ) (r : Result A Fault) (x : A) → one_placed s k r ≡ Ok x → r ≡ Ok x
value_of s k (Ok y) x e = cc
value_of s k (Err d) x e = absurd cc

-- ---- the loop

one-front : {A : Type 0} (front : List A) (x : A) (s k : ℕ) (r : Result (List A) BadFile)
    → with_front front (and_others s k (Ok x) r) ≡ with_front (front ++ x ∷ []) r
one-front front x s k (Ok xs) = ap (λ (ys : List _). Ok ys) (sym (append_assoc front (x ∷ []) xs))
one-front front x s k (Err e) = refl

pub step : {A : Type 0} (f : Format A) (s : ℕ) (c : ℕ → Context) (bs : List (List ℕ))
    (front : List A) (k : ℕ) (x : A) (total : Result (List A) BadFile) → k < length bs
    → one_placed s k (element_in f (c k) (get_or bs k [])) ≡ Ok x
    → with_front front (elements_from f s c k (drop k bs)) ≡ total
    → with_front (front ++ x ∷ []) (elements_from f s c (k + 1) (drop (k + 1) bs)) ≡ total
step f s c bs front k x total lt placed so_far =
    let e = value_of s k (element_in f (c k) (get_or bs k [])) x placed in
    let here : drop k bs ≡ get_or bs k [] ∷ drop (suc k) bs = drop-cons bs k [] lt in
    let next : suc k ≡ k + 1 = omega arith in
    (λ i. with_front (front ++ x ∷ []) (elements_from f s c (sym next i) (drop (sym next i) bs)))
    ∙ sym (one-front front x s k (elements_from f s c (suc k) (drop (suc k) bs)))
    ∙ ap (λ (r : Result _ Fault). with_front front
    (and_others s k r (elements_from f s c (suc k) (drop (suc k) bs)))) (sym e)
    ∙ ap (λ (xs : List (List ℕ)). with_front front (elements_from f s c k xs)) (sym here) ∙ so_far

first-fails : {A : Type 0} (front : List A) (s k : ℕ) (r : Result A Fault)
    (others : Result (List A) BadFile) (b : BadFile) → one_placed s k r ≡ Err b
    → with_front front (and_others s k r others) ≡ Err b
first-fails front s k (Ok x) others b e = absurd cc
first-fails front s k (Err d) others b e = cc

pub fails : {A : Type 0} (f : Format A) (s : ℕ) (c : ℕ → Context) (bs : List (List ℕ))
    (front : List A) (k : ℕ) (d : ValidFault) (total : Result (List A) BadFile) → k < length bs
    → FailsAs d (one_placed s k (element_in f (c k) (get_or bs k [])))
    → with_front front (elements_from f s c k (drop k bs)) ≡ total → FailsAs d total
fails f s c bs front k told.NoMemory total lt e so_far = tt
fails f s c bs front k (told.Bad b) total lt e so_far =
    let here : drop k bs ≡ get_or bs k [] ∷ drop (suc k) bs = drop-cons bs k [] lt in
    sym so_far ∙ ap (λ (xs : List (List ℕ)). with_front front (elements_from f s c k xs)) here
    ∙ first-fails front s k (element_in f (c k) (get_or bs k []))
    (elements_from f s c (suc k) (drop (suc k) bs)) b e

pub begins : {A : Type 0} (front : List A) (r : Result (List A) BadFile) → front ≡ []
    → with_front front r ≡ r
begins front (Ok xs) e = ap (λ (ys : List _). Ok (ys ++ xs)) e
begins front (Err e) h = refl

pub is_done : {A : Type 0} (f : Format A) (s : ℕ) (c : ℕ → Context) (bs : List (List ℕ))
    (front : List A) (k : ℕ) (total : Result (List A) BadFile) → length bs ≤ k
    → with_front front (elements_from f s c k (drop k bs)) ≡ total → total ≡ Ok front
is_done {A = A} f s c bs front k total le so_far =
    sym so_far ∙ ap (λ (xs : List (List ℕ)). with_front front (elements_from f s c k xs))
    (drop_all k bs le) ∙ ap (λ (xs : List A). Ok xs) (append-nil front)
