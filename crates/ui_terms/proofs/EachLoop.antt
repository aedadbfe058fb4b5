-- A loop that answers for each of a list, over a table that grows.
use Rattle.std.proofs.Common.{◌≡◌, ℕ, ◌+◌, ◌<◌, ◌≤◌, List, [], ◌∷◌, ◌++◌, length, drop, get_or, refl}
use Rattle.std.proofs.Common.{sym, ap, ◌∙◌, add-one, append_assoc, subst}
use Rattle.std.specs.Prelude.{map, All, Ok, Err}
use Rattle.std.proofs.Math.Seq.{drop-cons}
use Rattle.std.proofs.lemmas.List.{map-append, drop_all}
use Rattle.std.proofs.lemmas.List.Elements.{All-nil, All-push}
use Rattle.ui_types.specs.Table.{Table}
use Rattle.ui_types.specs.Decls.{DeclTrees}
use Rattle.ui_sets.specs.declared.fault.SetFault.{SetFault}
use Rattle.ui_sets.specs.Needed.{Needs, ◌>>=◌, Refuses, fault_of, refuses_then}
use Rattle.ui_terms.specs.Terms.{each}

-- what is answered already, and then each of the rest
abbrev pub each_from : {A B : Type 0} → (A → Needs B) → List B → List A → Needs (List B)
each_from f done xs = each f xs >>= λ ys. Ok (done ++ ys)

from_nothing : {B : Type 0} (m : Needs (List B)) → (m >>= λ ys. Ok ([] ++ ys)) ≡ m
from_nothing (Ok ys) = refl
from_nothing (Err e) = refl

onto : {B : Type 0} (m : Needs (List B)) (done : List B) (y : B)
    → ((m >>= λ ys. Ok (y ∷ ys)) >>= λ ys. Ok (done ++ ys))
    ≡ (m >>= λ ys. Ok ((done ++ y ∷ []) ++ ys))
onto (Ok ys) done y = ap (λ (l : List _). let r : Needs (List _) = Ok l in r)
    (sym (append_assoc done (y ∷ []) ys))
onto (Err e) done y = refl

step_from : {A B : Type 0} (f : A → Needs B) (done : List B) (x : A) (xs : List A) (y : B) → f x
    ≡ Ok y
    → each_from f done (x ∷ xs) ≡ each_from f (done ++ y ∷ []) xs
step_from f done x xs y e =
    ap (λ (m : Needs _). (m >>= λ z. (each f xs >>= λ ys. Ok (z ∷ ys))) >>= λ ys. Ok (done ++ ys)) e
    ∙ onto (each f xs) done y

then_fault : {A B C : Type 0} (m : Needs A) (f : A → Needs B) (g : B → Needs C) (e : SetFault)
    → Refuses (fault_of m) e → Refuses (fault_of ((m >>= f) >>= g)) e
then_fault m f g e h = refuses_then (m >>= f) g e (refuses_then m f e h)

nothing_more : {B : Type 0} (xs : List B) → xs ++ [] ≡ xs
nothing_more [] = refl
nothing_more (x ∷ xs) = ap (λ (l : List _). x ∷ l) (nothing_more xs)

module _ {A B X : Type 0} where
  -- the items done are valid, and with the rest give the whole
  pub record Along (f : A → Needs B) (Is : Table → X → Type 0) (see : Table → X → B)
      (whole : Needs (List B)) (t : Table) (done : List X) (left : List A) : Type 0 where
    pub valid : All (Is t) done
    pub rest : each_from f (map (see t) done) left ≡ whole

  pub along_start : (f : A → Needs B) (Is : Table → X → Type 0) (see : Table → X → B) (t : Table)
      (xs : List A)
      → Along f Is see (each f xs) t [] xs
  along_start f Is see t xs = record { valid = All-nil (Is t); rest = from_nothing (each f xs) }

  pub along_more : {f : A → Needs B} {Is : Table → X → Type 0} {see : Table → X → B}
      {whole : Needs (List B)} {t u : Table} {done : List X}
      (x : X) (a : A) (xs : List A)
      → Along f Is see whole t done (a ∷ xs) → (All (Is t) done → All (Is u) done)
      → (All (Is t) done → map (see u) done ≡ map (see t) done)
      → Is u x → f a ≡ Ok (see u x) → Along f Is see whole u (done ++ x ∷ []) xs
  along_more {f} {Is} {see} {whole} {t} {u} {done} x a xs k grow same valid e = record {
    valid = All-push (Is u) done x (grow k.valid) valid;
    rest =
        ap (λ (l : List B). each_from f l xs) (map-append (see u) done (x ∷ [])
        ∙ ap (λ (l : List B). l ++ see u x ∷ []) (same k.valid))
        ∙ sym (step_from f (map (see t) done) a xs (see u x) e) ∙ k.rest;
  }

  pub along_fault : {f : A → Needs B} {Is : Table → X → Type 0} {see : Table → X → B}
      {whole : Needs (List B)} {t : Table} {done : List X}
      (a : A) (xs : List A) (e : SetFault)
      → Along f Is see whole t done (a ∷ xs) → Refuses (fault_of (f a)) e
      → Refuses (fault_of whole) e
  along_fault {f} {see = see} {t = t} {done = done} a xs e k h =
      subst (λ (m : Needs (List B)). Refuses (fault_of m) e) k.rest
      (then_fault (f a) (λ y. (each f xs >>= λ ys. Ok (y ∷ ys))) (λ ys. Ok (map (see t) done ++ ys))
      e h)

  pub along_end : {f : A → Needs B} {Is : Table → X → Type 0} {see : Table → X → B}
      {whole : Needs (List B)} {t : Table} {done : List X}
      → Along f Is see whole t done [] → whole ≡ Ok (map (see t) done)
  along_end {see = see} {t = t} {done = done} k =
      sym k.rest ∙ ap (λ (l : List B). let r : Needs (List B) = Ok l in r)
      (nothing_more (map (see t) done))

-- the rest of a list, at a place
pub rest_at : {X : Type 0} (xs : List X) (i : ℕ) (d : X) → i < length xs
    → drop i xs ≡ get_or xs i d ∷ drop (i + 1) xs
rest_at xs i d lt = rw (drop-cons xs i d lt, add-one i) refl

-- ---- the same by the items in memory, which are read in the first table
module _ {A B X Y : Type 0} (F : DeclTrees → A → Needs B) (from : Table → Y → A)
    (Is : Table → X → Type 0) (see : Table → X → B) where
  abbrev pub whole_of : DeclTrees → Table → List Y → Needs (List B)
  whole_of ds t0 xs = each (F ds) (map (from t0) xs)

  pub record Turns (ds : DeclTrees) (t0 : Table) (xs : List Y) (t : Table) (done : List X) (i : ℕ) :
      Type 0 where
    pub along : Along (F ds) Is see (whole_of ds t0 xs) t done (map (from t0) (drop i xs))

  pub turns_start : (ds : DeclTrees) (t0 : Table) (xs : List Y) (done : List X) → done ≡ []
      → Turns ds t0 xs t0 done 0
  turns_start ds t0 xs done e = record {
    along =
        subst (λ (d : List X). Along (F ds) Is see (whole_of ds t0 xs) t0 d (map (from t0) xs))
        (sym e)
        (along_start (F ds) Is see t0 (map (from t0) xs));
  }

  here : (ds : DeclTrees) (t0 : Table) (xs : List Y) (t : Table) (done : List X) (i : ℕ) (d : Y)
      → i < length xs → Turns ds t0 xs t done i
      → Along (F ds) Is see (whole_of ds t0 xs) t done (from t0 (get_or xs i d) ∷ map (from t0)
      (drop (i + 1) xs))
  here ds t0 xs t done i d lt h =
      subst (λ (ys : List Y). Along (F ds) Is see (whole_of ds t0 xs) t done (map (from t0) ys))
      (rest_at xs i d lt) h.along

  pub turns_more : (ds ds' : DeclTrees) (t0 : Table) (xs : List Y) (t u : Table) (done : List X)
      (i : ℕ) (d : Y) (x : X)
      → i < length xs → Turns ds t0 xs t done i → ds' ≡ ds → from t (get_or xs i d)
      ≡ from t0 (get_or xs i d)
      → (All (Is t) done → All (Is u) done) → (All (Is t) done → map (see u) done
      ≡ map (see t) done)
      → Is u x → F ds' (from t (get_or xs i d)) ≡ Ok (see u x)
      → Turns ds t0 xs u (done ++ x ∷ []) (i + 1)
  turns_more ds ds' t0 xs t u done i d x lt h p q grow same valid e = record {
    along =
        along_more {f = F ds} {Is = Is} {see = see} {whole = whole_of ds t0 xs} {t = t} {u = u}
        {done = done}
        x (from t0 (get_or xs i d)) (map (from t0) (drop (i + 1) xs))
        (here ds t0 xs t done i d lt h) grow same valid
        (sym (λ j. F (p j) (q j)) ∙ e);
  }

  pub turns_fault : (ds ds' : DeclTrees) (t0 : Table) (xs : List Y) (t : Table) (done : List X)
      (i : ℕ) (d : Y) (e : SetFault)
      → i < length xs → Turns ds t0 xs t done i → ds' ≡ ds → from t (get_or xs i d)
      ≡ from t0 (get_or xs i d)
      → Refuses (fault_of (F ds' (from t (get_or xs i d)))) e
      → Refuses (fault_of (whole_of ds t0 xs)) e
  turns_fault ds ds' t0 xs t done i d e lt h p q k =
      along_fault {f = F ds} {Is = Is} {see = see} {whole = whole_of ds t0 xs} {t = t} {done = done}
      (from t0 (get_or xs i d)) (map (from t0) (drop (i + 1) xs)) e (here ds t0 xs t done i d lt h)
      (subst (λ (m : Needs B). Refuses (fault_of m) e) (λ j. F (p j) (q j)) k)

  pub turns_end : (ds : DeclTrees) (t0 : Table) (xs : List Y) (t : Table) (done : List X) (i : ℕ)
      → length xs ≤ i → Turns ds t0 xs t done i
      → All (Is t) done × (whole_of ds t0 xs ≡ Ok (map (see t) done))
  turns_end ds t0 xs t done i le h = (
    h.along.valid,
    along_end {f = F ds} {Is = Is} {see = see} {whole = whole_of ds t0 xs} {t = t} {done = done}
        (subst (λ (ys : List Y). Along (F ds) Is see (whole_of ds t0 xs) t done (map (from t0) ys))
        (drop_all i xs le) h.along),
  )
