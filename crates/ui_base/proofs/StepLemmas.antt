-- Lists that are read one item after another, up to the first fault.
use Rattle.std.proofs.Common.{◌≡◌, ℕ, ◌+◌, ◌<◌, ◌≤◌, zero, suc, List, [], ◌∷◌, ◌++◌, map, drop, length, get_or, Result, Ok, Err, refl, sym, ap, ◌∙◌, append_assoc, subst, arith}
use Rattle.std.specs.List.{AllByRecursion}
use Rattle.std.proofs.lemmas.List.{drop_more, drop_all, append-nil, map-append}
use Rattle.ui_base.specs.Steps.{and_then, each}

-- ---- a step behind another

pub goes_on : {A B E : Type 0} (step : A → Result B E) (v : Result A E) (x : A) → v ≡ Ok x → and_then step v ≡ step x
goes_on step v x e = ap (and_then step) e

pub stops : {A B E : Type 0} (step : A → Result B E) (v : Result A E) (fault : E) → v ≡ Err fault → and_then step v ≡ Err fault
stops step v fault e = ap (and_then step) e

-- a step that went on
pub record Went {A B E : Type 0} (step : A → Result B E) (v : Result A E) (y : B) : Type 0 where
  pub x : A
  pub is : v ≡ Ok x
  pub then : step x ≡ Ok y

pub went : {A B E : Type 0} (step : A → Result B E) (v : Result A E) (y : B) → and_then step v ≡ Ok y → Went step v y
went step (Ok x) y e = record { x = x; is = refl; then = e }
went step (Err f) y e = absurd cc

-- ---- lists

-- items, and those behind them
abbrev pub behind : {B E : Type 0} → List B → Result (List B) E → Result (List B) E
behind ys r = and_then (λ zs. Ok (ys ++ zs)) r

behind-none : {B E : Type 0} (r : Result (List B) E) → behind [] r ≡ r
behind-none (Ok zs) = refl
behind-none (Err e) = refl

pub behind_start : {B E : Type 0} (ys : List B) (r : Result (List B) E) → ys ≡ [] → behind ys r ≡ r
behind_start ys r e = ap (λ zs. behind zs r) e ∙ behind-none r

pub behind-end : {B E : Type 0} (ys : List B) → behind {E = E} ys (Ok []) ≡ Ok ys
behind-end ys = ap Ok (append-nil ys)

pub behind_more : {B E : Type 0} (ys : List B) (z : B) (r : Result (List B) E) → behind ys (and_then (λ zs. Ok (z ∷ zs)) r) ≡ behind (ys ++ z ∷ []) r
behind_more ys z (Ok zs) = ap Ok (sym (append_assoc ys (z ∷ []) zs))
behind_more ys z (Err e) = refl

pub turn : {X A : Type 0} (f : X → A) (xs : List X) (i : ℕ) (x : X) → i < length xs → x ≡ get_or xs i x → map f (drop i xs) ≡ f x ∷ map f (drop (i + 1) xs)
turn f xs i x h is = ap (map f) (drop_more xs i x h) ∙ ap (λ y. f y ∷ map f (drop (i + 1) xs)) (sym is)

pub no_turn : {X A : Type 0} (f : X → A) (xs : List X) (i : ℕ) → length xs ≤ i → map f (drop i xs) ≡ []
no_turn f xs i h = ap (map f) (drop_all i xs h)

module _ {X A B E : Type 0} (f : X → A) (step : A → Result B E) (xs : List X) (i : ℕ) (ys : List B) (target : Result (List B) E) where
  pub each_more : (x : X) (y : B) (ys' : List B) → i < length xs → x ≡ get_or xs i x → behind ys (each step (map f (drop i xs))) ≡ target → step (f x) ≡ Ok y → ys' ≡ ys ++ y ∷ [] → behind ys' (each step (map f (drop (i + 1) xs))) ≡ target
  each_more x y ys' h is before got grown =
      ap (λ zs. behind zs (each step (map f (drop (i + 1) xs)))) grown
      ∙ sym (behind_more ys y (each step (map f (drop (i + 1) xs))))
      ∙ sym (ap (λ r. behind ys (and_then (λ z. and_then (λ zs. Ok (z ∷ zs)) (each step (map f (drop (i + 1) xs)))) r)) got)
      ∙ sym (ap (λ bs. behind ys (each step bs)) (turn f xs i x h is))
      ∙ before

  pub each_refused : (x : X) (fault : E) → i < length xs → x ≡ get_or xs i x → behind ys (each step (map f (drop i xs))) ≡ target → step (f x) ≡ Err fault → target ≡ Err fault
  each_refused x fault h is before got =
      sym before
      ∙ ap (λ bs. behind ys (each step bs)) (turn f xs i x h is)
      ∙ ap (λ r. behind ys (and_then (λ z. and_then (λ zs. Ok (z ∷ zs)) (each step (map f (drop (i + 1) xs)))) r)) got

  pub each_ended : length xs ≤ i → behind ys (each step (map f (drop i xs))) ≡ target → target ≡ Ok ys
  each_ended h before = sym before ∙ ap (λ bs. behind ys (each step bs)) (no_turn f xs i h) ∙ behind-end ys

pub pushed : {X A : Type 0} (f : X → A) (xs xs' : List X) (x : X) → xs' ≡ xs ++ x ∷ [] → map f xs' ≡ map f xs ++ f x ∷ []
pushed f xs xs' x e = ap (map f) e ∙ map-append f xs (x ∷ [])

-- ---- what each gave

-- the first of a list and the others, where all went on
pub record Parts {B E : Type 0} (r : Result B E) (q : Result (List B) E) (bs : List B) : Type 0 where
  pub first : B
  pub others : List B
  pub head : r ≡ Ok first
  pub tail : q ≡ Ok others
  pub is : first ∷ others ≡ bs

parts : {B E : Type 0} (r : Result B E) (q : Result (List B) E) (bs : List B) → and_then (λ z. and_then (λ zs. Ok (z ∷ zs)) q) r ≡ Ok bs → Parts r q bs
parts (Ok z) (Ok zs) bs e = record { first = z; others = zs; head = refl; tail = refl; is = cc }
parts (Ok z) (Err f) bs e = absurd cc
parts (Err f) q bs e = absurd cc

pub split : {A B E : Type 0} (step : A → Result B E) (x : A) (xs : List A) (bs : List B) → each step (x ∷ xs) ≡ Ok bs → Parts (step x) (each step xs) bs
split step x xs bs e = parts (step x) (each step xs) bs e

pub each_length : {A B E : Type 0} (step : A → Result B E) (xs : List A) (bs : List B) → each step xs ≡ Ok bs → length bs ≡ length xs
each_length step [] bs e = let q : [] ≡ bs = cc in ap length (sym q)
each_length step (x ∷ xs) bs e =
    let s = split step x xs bs e in
    ap length (sym s.is) ∙ ap suc (each_length step xs s.others s.tail)

pub each_item : {X A B E : Type 0} (f : X → A) (step : A → Result B E) (xs : List X) (bs : List B) (i : ℕ) (x : X) (d : B) → each step (map f xs) ≡ Ok bs → i < length xs → x ≡ get_or xs i x → step (f x) ≡ Ok (get_or bs i d)
each_item f step [] bs i x d e h is = absurd (omega arith)
each_item f step (y ∷ ys) bs zero x d e h is =
    let s = split step (f y) (map f ys) bs e in
    ap (λ z. step (f z)) is ∙ s.head ∙ ap (λ zs. Ok (get_or zs 0 d)) s.is
each_item f step (y ∷ ys) bs (suc i) x d e h is =
    let s = split step (f y) (map f ys) bs e in
    each_item f step ys s.others i x d s.tail (omega arith) is ∙ ap (λ zs. Ok (get_or zs (suc i) d)) s.is

pub each_all : {A B E : Type 0} (P : B → Type 0) (step : A → Result B E) → ((a : A) (b : B) → step a ≡ Ok b → P b) → (xs : List A) (bs : List B) → each step xs ≡ Ok bs → AllByRecursion P bs
each_all P step good [] bs e = let q : [] ≡ bs = cc in subst (AllByRecursion P) q tt
each_all P step good (x ∷ xs) bs e =
    let s = split step x xs bs e in
    subst (AllByRecursion P) s.is (good x s.first s.head, each_all P step good xs s.others s.tail)
