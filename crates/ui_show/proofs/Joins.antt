-- Texts with separators, one more at a time.
use Rattle.std.proofs.Common.{◌≡◌, ℕ, ◌+◌, ◌<◌, Bool, true, false, ◌||◌, List, [], ◌∷◌, ◌++◌, take, get_or, length, refl, sym, ap, ◌∙◌, append_assoc}
use Rattle.std.specs.Prelude.{map, if◌then◌else◌}
use Rattle.std.proofs.lemmas.List.{take_more, map-append}
use Rattle.ui_show.specs.Pieces.{tail_of, joined}
use Rattle.ui_show.specs.Types.{comparable, are_some}

-- whether a text comes behind others
abbrev pub is_started : Bool → List (List ℕ) → Bool
is_started b [] = b
is_started b (x ∷ xs) = true

started : (xs : List (List ℕ)) → is_started true xs ≡ true
started [] = refl
started (x ∷ xs) = refl

pub append_nil : {X : Type 0} (xs : List X) → xs ++ [] ≡ xs
append_nil [] = refl
append_nil (x ∷ xs) = ap (λ (ys : List _). x ∷ ys) (append_nil xs)

pub tail-append : (sep : List ℕ) (b : Bool) (xs ys : List (List ℕ))
    → tail_of sep b (xs ++ ys) ≡ tail_of sep b xs ++ tail_of sep (is_started b xs) ys
tail-append sep b [] ys = refl
tail-append sep b (x ∷ xs) ys =
    let front = (if b then sep else []) ++ x in
    ap (λ (t : List ℕ). front ++ t)
    (tail-append sep true xs ys
    ∙ ap (λ (c : Bool). tail_of sep true xs ++ tail_of sep c ys) (started xs))
    ∙ sym (append_assoc front (tail_of sep true xs) (tail_of sep true ys))

pub started-push : (b : Bool) (xs : List (List ℕ)) (x : List ℕ) → is_started b (xs ++ x ∷ []) ≡ true
started-push b [] x = refl
started-push b (y ∷ ys) x = refl

-- one text more
module _ {X : Type 0} (f : X → List ℕ) (sep : List ℕ) (b : Bool) where
  pub each_more : (xs : List X) (i : ℕ) (d : X) → i < length xs
      → tail_of sep b (map f (take (i + 1) xs))
      ≡ tail_of sep b (map f (take i xs))
      ++ ((if is_started b (map f (take i xs)) then sep else []) ++ f (get_or xs i d))
  each_more xs i d h =
      let done = map f (take i xs) in
      let next = f (get_or xs i d) in
      ap (λ (ys : List X). tail_of sep b (map f ys)) (take_more xs i d h)
      ∙ ap (λ (ts : List (List ℕ)). tail_of sep b ts) (map-append f (take i xs) (get_or xs i d ∷ []))
      ∙ tail-append sep b done (next ∷ [])
      ∙ ap (λ (t : List ℕ). tail_of sep b done ++ t)
      (append_nil ((if is_started b done then sep else []) ++ next))

  -- a turn of a loop: the gap, and then the text
  pub turn : (xs : List X) (i : ℕ) (d : X) (c : Bool) (start out gapped new : List ℕ)
      → i < length xs → out ≡ start ++ tail_of sep b (map f (take i xs))
      → c ≡ is_started b (map f (take i xs)) → gapped ≡ out ++ (if c then sep else [])
      → new ≡ gapped ++ f (get_or xs i d)
      → new ≡ start ++ tail_of sep b (map f (take (i + 1) xs))
  turn xs i d c start out gapped new h o e g n =
      let done = tail_of sep b (map f (take i xs)) in
      let gap : List ℕ = if is_started b (map f (take i xs)) then sep else [] in
      let next = f (get_or xs i d) in
      n
      ∙ ap (λ (t : List ℕ). t ++ next)
      (g ∙ (λ j. o j ++ (if e j then sep else [])))
      ∙ append_assoc (start ++ done) gap next
      ∙ append_assoc start done (gap ++ next)
      ∙ ap (λ (t : List ℕ). start ++ t) (sym (each_more xs i d h))

  pub started_more : (xs : List X) (i : ℕ) (d : X) → i < length xs
      → is_started b (map f (take (i + 1) xs)) ≡ true
  started_more xs i d h =
      ap (λ (ys : List X). is_started b (map f ys)) (take_more xs i d h)
      ∙ ap (λ (ts : List (List ℕ)). is_started b ts) (map-append f (take i xs) (get_or xs i d ∷ []))
      ∙ started-push b (map f (take i xs)) (f (get_or xs i d))

-- two texts, and three, one behind another
pub two_texts : (g a b new m : List ℕ) → m ≡ g ++ a → new ≡ m ++ b → new ≡ g ++ (a ++ b)
two_texts g a b new m e f = f ∙ ap (λ (t : List ℕ). t ++ b) e ∙ append_assoc g a b

pub three_texts : (g a b c new m n : List ℕ) → m ≡ g ++ a → n ≡ m ++ b → new ≡ n ++ c
    → new ≡ g ++ (a ++ b ++ c)
three_texts g a b c new m n e f h = two_texts g (a ++ b) c new n (two_texts g a b n m e f) h

-- the methods, `comparable` and the unions of an interface
module _ {X Y : Type 0} (f : X → List ℕ) (h : Y → List ℕ) (sep : List ℕ) where
  started_some : (xs : List X) → is_started false (map f xs) ≡ are_some xs
  started_some [] = refl
  started_some (x ∷ xs) = refl

  started_comparable : (b c : Bool) → is_started b (comparable c) ≡ (b || c)
  started_comparable true true = refl
  started_comparable true false = refl
  started_comparable false true = refl
  started_comparable false false = refl

  pub all_elements : (xs : List X) (c : Bool) (ys : List Y)
      → joined sep (map f xs ++ comparable c ++ map h ys)
      ≡ joined sep (map f xs) ++ tail_of sep (are_some xs) (comparable c)
      ++ tail_of sep (are_some xs || c) (map h ys)
  all_elements xs c ys =
      tail-append sep false (map f xs ++ comparable c) (map h ys)
      ∙ (λ i. tail-append sep false (map f xs) (comparable c) i
      ++ tail_of sep (whole i) (map h ys))
      ∙ ap (λ (b : Bool). joined sep (map f xs) ++ tail_of sep b (comparable c)
      ++ tail_of sep (are_some xs || c) (map h ys)) (started_some xs)
    where
      both : (ts us : List (List ℕ)) → is_started false (ts ++ us) ≡ is_started (is_started false ts) us
      both [] us = refl
      both (t ∷ ts) us = sym (started us)

      whole : is_started false (map f xs ++ comparable c) ≡ (are_some xs || c)
      whole = both (map f xs) (comparable c)
          ∙ ap (λ (b : Bool). is_started b (comparable c)) (started_some xs)
          ∙ started_comparable (are_some xs) c
