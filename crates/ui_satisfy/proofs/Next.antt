-- One test of a constraint after another.
use Rattle.std.proofs.Common.{◌≡◌, ℕ, Bool, true, false, List, refl, ap, ◌∙◌, subst}
use Rattle.std.specs.Prelude.{Some, None, Result, Ok, Err}
use Rattle.ui_types.specs.Ty.{Ty}
use Rattle.ui_types.specs.Decls.{DeclTrees}
use Rattle.ui_sets.specs.declared.fault.SetFault.{SetFault}
use Rattle.ui_sets.specs.declared.fault.SetFault.TheVariants.{Unfit as Unfits, TooBig, TooDeep}
use Rattle.ui_sets.specs.declared.fault.SetFault.TheVariants.{NoMemory}
use Rattle.ui_sets.specs.declared.fault.Unfit.TheVariants.{NotComparable}
use Rattle.ui_sets.specs.Needed.{Needs, Answers, Refuses, fault_of}
use Rattle.ui_satisfy.specs.Search.{compared, Ends, EndsAs}
use Rattle.ui_satisfy.specs.Satisfies.{Steps, and_next, or_not_comparable, comparable_fits}
use Rattle.ui_satisfy.proofs.Walks.{ends_by, ends_now, ends_same}

-- what is known at once
pub known_ok : {A : Type 0} (m : Needs A) (x : A) → m ≡ Ok x → Ends (λ n. Some m) (Some (Ok x))
known_ok m x e = record { steps = 0; from = λ n h. ap Some e }

pub known_fault : {A : Type 0} (m : Needs A) (e : SetFault) → Refuses (fault_of m) e
    → EndsAs (λ n. Some m) (Err e)
known_fault (Ok x) (Unfits u) h = absurd cc
known_fault (Ok x) TooBig h = absurd cc
known_fault (Ok x) TooDeep h = absurd cc
known_fault (Ok x) NoMemory h = tt
known_fault (Err f) (Unfits u) h =
    let q : f ≡ Unfits u = cc in record {
      steps = 0;
      from = λ n k. ap
          (λ (g : SetFault). Some (Err g)) q;
    }
known_fault (Err f) TooBig h =
    let q : f ≡ TooBig = cc in record {
      steps = 0;
      from = λ n k. ap (λ (g : SetFault). Some (Err g))
          q;
    }
known_fault (Err f) TooDeep h =
    let q : f ≡ TooDeep = cc in record {
      steps = 0;
      from = λ n k. ap
          (λ (g : SetFault). Some (Err g)) q;
    }
known_fault (Err f) NoMemory h = tt

pub known : {A : Type 0} (m : Needs A) (r : Result A SetFault) → Answers m r
    → EndsAs (λ n. Some m) r
known m (Ok x) h = known_ok m x h
known m (Err e) h = known_fault m e h

-- ---- the next test
pub next_ok : {A B : Type 0} (a : ℕ → Steps A) (f : ℕ → A → Steps B) (x : A) (r : Result B SetFault)
    → Ends a (Some (Ok x)) → EndsAs (λ n. f n x) r → EndsAs (λ n. and_next (a n) (f n)) r
next_ok a f x (Ok y) h k = ends_by (λ n s. and_next s (f n)) a (Some (Ok x)) (Some (Ok y)) h k
next_ok a f x (Err (Unfits u)) h k =
    ends_by (λ n s. and_next s (f n)) a (Some (Ok x)) (Some (Err (Unfits u))) h k
next_ok a f x (Err TooBig) h k =
    ends_by (λ n s. and_next s (f n)) a (Some (Ok x)) (Some (Err TooBig)) h k
next_ok a f x (Err TooDeep) h k =
    ends_by (λ n s. and_next s (f n)) a (Some (Ok x)) (Some (Err TooDeep)) h k
next_ok a f x (Err NoMemory) h k = tt

pub next_fault : {A B : Type 0} (a : ℕ → Steps A) (f : ℕ → A → Steps B) (e : SetFault)
    → EndsAs a (Err e) → EndsAs (λ n. and_next (a n) (f n)) (Err e)
next_fault a f (Unfits u) h =
    ends_by (λ n s. and_next s (f n)) a (Some (Err (Unfits u))) (Some (Err (Unfits u))) h
    (ends_now (Some (Err (Unfits u))))
next_fault a f TooBig h =
    ends_by (λ n s. and_next s (f n)) a (Some (Err TooBig)) (Some (Err TooBig)) h
    (ends_now (Some (Err TooBig)))
next_fault a f TooDeep h =
    ends_by (λ n s. and_next s (f n)) a (Some (Err TooDeep)) (Some (Err TooDeep)) h
    (ends_now (Some (Err TooDeep)))
next_fault a f NoMemory h = tt

-- the same end, by another walk
pub ends_as : {A : Type 0} (a b : ℕ → Steps A) (r : Result A SetFault) → a ≡ b → EndsAs a r
    → EndsAs b r
ends_as a b r e h = subst (λ (w : ℕ → Steps _). EndsAs w r) e h

-- ---- `comparable`
pub is_comparable : (ds : DeclTrees) (bs : List Ty) (t : Ty) (asked : Bool) → asked ≡ true
    → EndsAs (compared ds bs t) (Ok true) → EndsAs (comparable_fits ds bs t asked) (Ok tt)
is_comparable ds bs t true e h =
    next_ok (compared ds bs t) (λ n. or_not_comparable) true (Ok tt) h (ends_now (Some (Ok tt)))
is_comparable ds bs t false e h = absurd cc

pub isnt_comparable : (ds : DeclTrees) (bs : List Ty) (t : Ty) (asked : Bool) → asked ≡ true
    → EndsAs (compared ds bs t) (Ok false)
    → EndsAs (comparable_fits ds bs t asked) (Err (Unfits NotComparable))
isnt_comparable ds bs t true e h =
    next_ok (compared ds bs t) (λ n. or_not_comparable) false (Err (Unfits NotComparable)) h
    (ends_now (Some (Err (Unfits NotComparable))))
isnt_comparable ds bs t false e h = absurd cc

pub past_comparable : (ds : DeclTrees) (bs : List Ty) (t : Ty) (asked : Bool) (f : SetFault) → asked
    ≡ true
    → EndsAs (compared ds bs t) (Err f) → EndsAs (comparable_fits ds bs t asked) (Err f)
past_comparable ds bs t true f e h = next_fault (compared ds bs t) (λ n. or_not_comparable) f h
past_comparable ds bs t false f e h = absurd cc

pub not_asked : (ds : DeclTrees) (bs : List Ty) (t : Ty) (asked : Bool) → asked ≡ false
    → EndsAs (comparable_fits ds bs t asked) (Ok tt)
not_asked ds bs t true e = absurd cc
not_asked ds bs t false e = ends_now (Some (Ok tt))
