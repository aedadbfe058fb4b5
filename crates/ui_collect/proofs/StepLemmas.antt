-- Rules one after another, and loops over lists.
use Rattle.std.proofs.Common.{◌≡◌, ℕ, ◌+◌, ◌<◌, ◌≤◌, List, [], ◌∷◌, ◌++◌, map, drop, length}
use Rattle.std.proofs.Common.{get_or, Result, Ok, Err, refl, sym, ap, ◌∙◌}
use Rattle.std.proofs.Common.{subst, append_assoc}
use Rattle.std.specs.List.{fold}
use Rattle.std.proofs.lemmas.List.{drop_more, drop_all, append-nil}
use Rattle.ui_base.proofs.StepLemmas.{turn, no_turn, pushed}
use Rattle.ui_base.specs.declared.fault.CheckFault.{CheckFault}
use Rattle.ui_scopes.specs.Steps.{Checks, ◌>>=◌, Refuses, fault_of, refuses_then}
use Rattle.ui_collect.specs.Names.{steps}
use Rattle.ui_collect.specs.Views.{Moves, Holds}

-- ---- one rule behind another

pub then_next : {S T : Type 0} (m : Checks S) (f : S → Checks T) (s : S)
    (r : Result (Unit {0}) CheckFault) (t : T) → m ≡ Ok s → Moves (f s) r t → Moves (m >>= f) r t
then_next m f s r t e h =
    let P : Checks _ → Type 0 = λ n. Moves (n >>= f) r t in subst P (sym e) h

pub then_kept : {S : Type 0} (m : Checks S) (k : Checks (Unit {0})) (s : S)
    (r : Result (Unit {0}) CheckFault) → m ≡ Ok s → Holds k r
    → Moves (m >>= λ t. k >>= λ _. Ok t) r s
then_kept m k s r e h =
    let P : Checks _ → Type 0 = λ n. Moves (n >>= λ t. k >>= λ _. Ok t) r s in
    subst P (sym e) (kept k s r h)
  where
    kept : {S : Type 0} (k : Checks (Unit {0})) (s : S) (r : Result (Unit {0}) CheckFault) → Holds
        k r
        → Moves (k >>= λ _. Ok s) r s
    kept k s (Ok u) h = ap (λ n. n >>= λ _. Ok s) h
    kept k s (Err e) h = refuses_then k (λ _. Ok s) e h

pub then_dropped : {S : Type 0} (m : Checks S) (s : S) (r : Result (Unit {0}) CheckFault)
    → Moves m r s → Holds (m >>= λ _. Ok tt) r
then_dropped m s (Ok u) h = ap (λ n. n >>= λ _. Ok tt) h
then_dropped m s (Err e) h = refuses_then m (λ _. Ok tt) e h

-- ---- loops

-- so many items went through the rule
pub record Walked {S X A : Type 0} (rule : S → A → Checks S) (v : X → A) (start now : S)
    (xs : List X) (i : ℕ) : Type 0 where
  pub rest : steps rule start (map v xs) ≡ steps rule now (map v (drop i xs))

module _ {S X A : Type 0} (rule : S → A → Checks S) (v : X → A) (start now : S) (xs : List X) where
  pub Walked-start : Walked rule v now now xs 0
  Walked-start = record { rest = refl }

  walked_here : (i : ℕ) (x : X) → Walked rule v start now xs i → i < length xs → x ≡ get_or xs i x
      → steps rule start (map v xs) ≡ (rule now (v x) >>= λ t. steps rule t (map v (drop (i + 1)
      xs)))
  walked_here i x w h is = w.rest ∙ ap (steps rule now) (turn v xs i x h is)

  pub Walked-more : (next : S) (i : ℕ) (x : X) → Walked rule v start now xs i → i < length xs
      → x ≡ get_or xs i x → rule now (v x) ≡ Ok next → Walked rule v start next xs (i + 1)
  Walked-more next i x w h is e = record {
    rest = walked_here i x w h is ∙ ap (λ m. m >>= λ t. steps rule t (map v (drop (i + 1) xs))) e;
  }

  pub Walked-failed : (i : ℕ) (x : X) (e : CheckFault) → Walked rule v start now xs i
      → i < length xs → x ≡ get_or xs i x → Refuses (fault_of (rule now (v x))) e
      → Refuses (fault_of (steps rule start (map v xs))) e
  Walked-failed i x e w h is f =
      let P : Checks S → Type 0 = λ m. Refuses (fault_of m) e in
      subst P (sym (walked_here i x w h is))
      (refuses_then (rule now (v x)) (λ t. steps rule t (map v (drop (i + 1) xs))) e f)

  pub Walked-end : (i : ℕ) → Walked rule v start now xs i → length xs ≤ i
      → steps rule start (map v xs) ≡ Ok now
  Walked-end i w h = w.rest ∙ ap (steps rule now) (no_turn v xs i h)

-- the same, where the rule takes the items themselves
pub record Passed {S X : Type 0} (rule : S → X → Checks S) (start now : S) (xs : List X) (i : ℕ)
    : Type 0 where
  pub rest : steps rule start xs ≡ steps rule now (drop i xs)

module _ {S X : Type 0} (rule : S → X → Checks S) (start now : S) (xs : List X) where
  pub Passed-start : Passed rule now now xs 0
  Passed-start = record { rest = refl }

  passed_here : (i : ℕ) (x : X) → Passed rule start now xs i → i < length xs → x ≡ get_or xs i x
      → steps rule start xs ≡ (rule now x >>= λ t. steps rule t (drop (i + 1) xs))
  passed_here i x w h is =
      w.rest ∙ ap (steps rule now) (drop_more xs i x h)
      ∙ ap (λ y. rule now y >>= λ t. steps rule t (drop (i + 1) xs)) (sym is)

  pub Passed-more : (next : S) (i : ℕ) (x : X) → Passed rule start now xs i → i < length xs
      → x ≡ get_or xs i x → rule now x ≡ Ok next → Passed rule start next xs (i + 1)
  Passed-more next i x w h is e = record {
    rest = passed_here i x w h is ∙ ap (λ m. m >>= λ t. steps rule t (drop (i + 1) xs)) e;
  }

  pub Passed-failed : (i : ℕ) (x : X) (e : CheckFault) → Passed rule start now xs i → i < length xs
      → x ≡ get_or xs i x → Refuses (fault_of (rule now x)) e
      → Refuses (fault_of (steps rule start xs)) e
  Passed-failed i x e w h is f =
      let P : Checks S → Type 0 = λ m. Refuses (fault_of m) e in
      subst P (sym (passed_here i x w h is))
      (refuses_then (rule now x) (λ t. steps rule t (drop (i + 1) xs)) e f)

  pub Passed-end : (i : ℕ) → Passed rule start now xs i → length xs ≤ i → steps rule start xs ≡ Ok
      now
  Passed-end i w h = w.rest ∙ ap (steps rule now) (drop_all i xs h)

-- what so many items make of something
pub record Folded {S X A : Type 0} (f : S → A → S) (v : X → A) (start now : S) (xs : List X) (i : ℕ)
    : Type 0 where
  pub rest : fold f start (map v xs) ≡ fold f now (map v (drop i xs))

module _ {S X A : Type 0} (f : S → A → S) (v : X → A) (start now : S) (xs : List X) where
  pub Folded-start : now ≡ start → Folded f v start now xs 0
  Folded-start e = record { rest = ap (λ s. fold f s (map v xs)) (sym e) }

  pub Folded-more : (next : S) (i : ℕ) (x : X) → Folded f v start now xs i → i < length xs
      → x ≡ get_or xs i x → next ≡ f now (v x) → Folded f v start next xs (i + 1)
  Folded-more next i x w h is e = record {
    rest = w.rest ∙ ap (fold f now) (turn v xs i x h is)
        ∙ ap (λ t. fold f t (map v (drop (i + 1) xs))) (sym e);
  }

  pub Folded-end : (i : ℕ) → Folded f v start now xs i → length xs ≤ i → now ≡ fold f start (map v
      xs)
  Folded-end i w h = sym (w.rest ∙ ap (fold f now) (no_turn v xs i h))

-- the same, where the step takes the items themselves
pub record PassedBy {S X : Type 0} (f : S → X → S) (start now : S) (xs : List X) (i : ℕ) : Type 0
  where
    pub rest : fold f start xs ≡ fold f now (drop i xs)

module _ {S X : Type 0} (f : S → X → S) (start now : S) (xs : List X) where
  pub PassedBy-start : now ≡ start → PassedBy f start now xs 0
  PassedBy-start e = record { rest = ap (λ s. fold f s xs) (sym e) }

  pub PassedBy-more : (next : S) (i : ℕ) (x : X) → PassedBy f start now xs i → i < length xs
      → x ≡ get_or xs i x → next ≡ f now x → PassedBy f start next xs (i + 1)
  PassedBy-more next i x w h is e = record {
    rest = w.rest ∙ ap (fold f now) (drop_more xs i x h)
        ∙ ap (λ y. fold f (f now y) (drop (i + 1) xs)) (sym is)
        ∙ ap (λ t. fold f t (drop (i + 1) xs)) (sym e);
  }

  pub PassedBy-end : (i : ℕ) → PassedBy f start now xs i → length xs ≤ i → now ≡ fold f start xs
  PassedBy-end i w h = sym (w.rest ∙ ap (fold f now) (drop_all i xs h))

-- so many items are mapped
pub record Mapped {X Y B : Type 0} (see : Y → B) (f : X → B) (found : List Y) (xs : List X) (i : ℕ)
    : Type 0 where
  pub rest : map f xs ≡ map see found ++ map f (drop i xs)

module _ {X Y B : Type 0} (see : Y → B) (f : X → B) (found : List Y) (xs : List X) where
  pub Mapped-start : found ≡ [] → Mapped see f found xs 0
  Mapped-start e = record { rest = ap (λ ys. map see ys ++ map f xs) (sym e) }

  pub Mapped-more : (next : List Y) (i : ℕ) (x : X) (y : Y) → Mapped see f found xs i
      → i < length xs → x ≡ get_or xs i x → see y ≡ f x → next ≡ found ++ y ∷ []
      → Mapped see f next xs (i + 1)
  Mapped-more next i x y m h is e k = record {
    rest = m.rest ∙ ap (λ bs. map see found ++ bs) (turn f xs i x h is)
        ∙ ap (λ b. map see found ++ b ∷ map f (drop (i + 1) xs)) (sym e)
        ∙ sym (append_assoc (map see found) (see y ∷ []) (map f (drop (i + 1) xs)))
        ∙ ap (λ bs. bs ++ map f (drop (i + 1) xs)) (sym (pushed see found next y k));
  }

  pub Mapped-end : (i : ℕ) → Mapped see f found xs i → length xs ≤ i → map see found ≡ map f xs
  Mapped-end i m h = sym (m.rest ∙ ap (λ bs. map see found ++ bs) (no_turn f xs i h)
      ∙ append-nil (map see found))

pub ruleset mapping = (
  PassedBy-start,
  PassedBy-more,
  PassedBy-end,
  Mapped-start,
  Mapped-more,
  Mapped-end,
)

pub ruleset walking = (
  then_next,
  then_kept,
  then_dropped,
  Walked-start,
  Walked-more,
  Walked-failed,
  Walked-end,
  Passed-start,
  Passed-more,
  Passed-failed,
  Passed-end,
  Folded-start,
  Folded-more,
  Folded-end,
)
