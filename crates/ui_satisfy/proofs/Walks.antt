-- Where searches end, from the ends of their parts.
use Rattle.std.proofs.Common.{◌≡◌, ℕ, zero, suc, ◌+◌, ◌≤◌, Bool, true, false, List, [], ◌∷◌, refl, sym}
use Rattle.std.proofs.Common.{ap, ◌∙◌, subst, arith, length, take}
use Rattle.std.specs.Prelude.{Option, Some, None, Result, Ok, Err, if◌then◌else◌}
use Rattle.std.proofs.lemmas.List.{take_all, take-take}
use Rattle.ui_types.specs.declared.id.TypeId.{TypeId}
use Rattle.ui_types.specs.Ty.{Ty}
use Rattle.ui_types.specs.Table.{Table}
use Rattle.ui_types.specs.Decls.{DeclTrees}
use Rattle.ui_sets.specs.declared.fault.SetFault.{SetFault}
use Rattle.ui_sets.specs.declared.fault.SetFault.TheVariants.{Unfit as Unfits, TooBig, TooDeep}
use Rattle.ui_sets.specs.declared.fault.SetFault.TheVariants.{NoMemory}
use Rattle.ui_sets.specs.Needed.{Needs, Refuses, fault_of, needed}
use Rattle.ui_satisfy.specs.declared.marks.Marks.{Marks}
use Rattle.ui_satisfy.specs.Search.{Seen, is_in, Look, unfinished, refused, holds, fails, and_then, or_else}
use Rattle.ui_satisfy.specs.Search.{with_needed, all_looked, one_looked, closed, looked, looked_anew}
use Rattle.ui_satisfy.specs.Search.{look, Ends, answer_of, EndsAs}
use Rattle.ui_satisfy.specs.Comparable.{term_types}
use Rattle.ui_satisfy.specs.Marks.{AreMarks, seen, IsLonger, found, IsFound, IsRefused, Looks}

-- ---- ends
pub ends_now : {A : Type 0} (x : A) → Ends (λ n. x) x
ends_now x = record { steps = 0; from = λ n h. refl }

-- one walk through another
pub ends_by : {A B : Type 0} (g : ℕ → A → B) (a : ℕ → A) (x : A) (y : B)
    → Ends a x → Ends (λ n. g n x) y → Ends (λ n. g n (a n)) y
ends_by g a x y p q = record {
  steps = p.steps + q.steps;
  from = λ n h. ap (g n) (p.from n (omega arith)) ∙ q.from n (omega arith);
}

pub ends_same : {A : Type 0} (a b : ℕ → A) (x : A) → ((n : ℕ) → b n ≡ a n) → Ends a x → Ends b x
ends_same a b x e p = record { steps = p.steps; from = λ n h. e n ∙ p.from n h }

pub fails_same : (a b : ℕ → Look) (e : SetFault) → ((n : ℕ) → b n ≡ a n) → IsRefused a e
    → IsRefused b e
fails_same a b (Unfits u) e p = ends_same a b (refused (Unfits u)) e p
fails_same a b TooBig e p = ends_same a b (refused TooBig) e p
fails_same a b TooDeep e p = ends_same a b (refused TooDeep) e p
fails_same a b NoMemory e p = tt

-- a fault goes through
pub fails_by : (g : ℕ → Look → Look) (a : ℕ → Look) (e : SetFault)
    → ((n : ℕ) (f : SetFault) → g n (refused f) ≡ refused f) → IsRefused a e
    → IsRefused (λ n. g n (a n)) e
fails_by g a (Unfits u) through p = ends_by g a (refused (Unfits u)) (refused (Unfits u)) p
    (record { steps = 0; from = λ n h. through n (Unfits u) })
fails_by g a TooBig through p = ends_by g a (refused TooBig) (refused TooBig) p
    (record { steps = 0; from = λ n h. through n TooBig })
fails_by g a TooDeep through p = ends_by g a (refused TooDeep) (refused TooDeep) p
    (record { steps = 0; from = λ n h. through n TooDeep })
fails_by g a NoMemory through p = tt

-- a needed type that is past a limit
pub fails_needed : (m : Needs Ty) (f : ℕ → Ty → Look) (e : SetFault) → Refuses (fault_of m) e
    → IsRefused (λ n. with_needed m (f n)) e
fails_needed (Ok u) f (Unfits v) h = absurd cc
fails_needed (Ok u) f TooBig h = absurd cc
fails_needed (Ok u) f TooDeep h = absurd cc
fails_needed (Ok u) f NoMemory h = tt
fails_needed (Err x) f (Unfits v) h =
    let q : x ≡ Unfits v = cc in record { steps = 0; from = λ n k. ap refused q }
fails_needed (Err x) f TooBig h =
    let q : x ≡ TooBig = cc in record { steps = 0; from = λ n k. ap refused q }
fails_needed (Err x) f TooDeep h =
    let q : x ≡ TooDeep = cc in record { steps = 0; from = λ n k. ap refused q }
fails_needed (Err x) f NoMemory h = tt

-- ---- lists that grow at their end
pub longer_refl : (xs : List TypeId) → IsLonger xs xs
longer_refl xs = record { front = take_all (length xs) xs (omega arith); longer = omega arith }

pub longer_trans : (xs ys zs : List TypeId) → IsLonger xs ys → IsLonger ys zs → IsLonger xs zs
longer_trans xs ys zs f g = record {
  front =
      sym (take-take (length xs) (length ys) zs f.longer)
      ∙ ap (take (length xs)) g.front ∙ f.front;
  longer = let p = f.longer in let q = g.longer in omega arith;
}

-- ---- what calls answer
-- the same end, by another walk
pub looks_same : (table : Table) (old new : Marks) (a b : ℕ → Look) (r : Result Bool SetFault)
    → ((n : ℕ) → b n ≡ a n) → Looks table old new a r → Looks table old new b r
looks_same table old new a b (Ok is) e h = record {
  marks = h.marks;
  longer = h.longer;
  ends = ends_same a b (found is (seen table new)) e h.ends;
}
looks_same table old new a b (Err f) e h = fails_same a b f e h

-- one step more
look_ends : (ds : DeclTrees) (bs : List Ty) (s : Seen) (t : Ty) (x : Look)
    → Ends (λ n. looked ds bs (look ds bs n) s t) x → Ends (λ n. look ds bs n s t) x
unfolding look
look_ends ds bs s t x h = record { steps = suc h.steps; from = by }
  where
    by : (n : ℕ) → suc h.steps ≤ n → look ds bs n s t ≡ x
    by zero k = absurd (omega arith)
    by (suc n) k = h.from n (omega arith)

look_fails : (ds : DeclTrees) (bs : List Ty) (s : Seen) (t : Ty) (e : SetFault)
    → IsRefused (λ n. looked ds bs (look ds bs n) s t) e → IsRefused (λ n. look ds bs n s t) e
look_fails ds bs s t (Unfits u) h = look_ends ds bs s t (refused (Unfits u)) h
look_fails ds bs s t TooBig h = look_ends ds bs s t (refused TooBig) h
look_fails ds bs s t TooDeep h = look_ends ds bs s t (refused TooDeep) h
look_fails ds bs s t NoMemory h = tt

module _ (ds : DeclTrees) (bs : List Ty) (s : Seen) (t : Ty) where
  -- a type that was met
  pub look_bad : is_in t s.bad ≡ true → Ends (λ n. look ds bs n s t) (fails s)
  look_bad e = look_ends ds bs s t (fails s) (record { steps = 0; from = λ n h. rw e refl })

  pub look_good : is_in t s.bad ≡ false → is_in t s.good ≡ true
      → Ends (λ n. look ds bs n s t) (holds s)
  look_good e f = look_ends ds bs s t (holds s) (record { steps = 0; from = λ n h. rw (e, f) refl })

  anew_walk : is_in t s.bad ≡ false → is_in t s.good ≡ false → (n : ℕ)
      → looked ds bs (look ds bs n) s t ≡ with_needed (needed ds t)
      (looked_anew ds bs (look ds bs n) s t)
  anew_walk e f n = rw (e, f) refl

  pub look_past : is_in t s.bad ≡ false → is_in t s.good ≡ false → (x : SetFault)
      → Refuses (fault_of (needed ds t)) x → IsRefused (λ n. look ds bs n s t) x
  look_past e f x h =
      look_fails ds bs s t x
      (fails_same (λ n. with_needed (needed ds t) (looked_anew ds bs (look ds bs n) s t))
      (λ n. looked ds bs (look ds bs n) s t) x (anew_walk e f)
      (fails_needed (needed ds t) (λ n. looked_anew ds bs (look ds bs n) s t) x h))

  pub looks_anew : (table : Table) (old new : Marks) (u : Ty) (r : Result Bool SetFault)
      → is_in t s.bad ≡ false → is_in t s.good ≡ false → needed ds t ≡ Ok u
      → Looks table old new (λ n. looked_anew ds bs (look ds bs n) s t u) r
      → Looks table old new (λ n. look ds bs n s t) r
  looks_anew table old new u r e f p h = by r (looks_same table old new
      (λ n. looked_anew ds bs (look ds bs n) s t u) (λ n. looked ds bs (look ds bs n) s t) r walk h)
    where
      walk : (n : ℕ) → looked ds bs (look ds bs n) s t ≡ looked_anew ds bs (look ds bs n) s t u
      walk n = anew_walk e f n ∙ ap (λ (m : Needs Ty). with_needed m
          (looked_anew ds bs (look ds bs n) s t)) p

      by : (r : Result Bool SetFault) → Looks table old new (λ n. looked ds bs (look ds bs n) s t) r
          → Looks table old new (λ n. look ds bs n s t) r
      by (Ok is) k = record {
        marks = k.marks;
        longer = k.longer;
        ends = look_ends ds bs s t (found is (seen table new)) k.ends;
      }
      by (Err x) k = look_fails ds bs s t x k

-- what a whole search answers
pub search_fails : (a : ℕ → Look) (e : SetFault) → IsRefused a e
    → EndsAs (λ n. answer_of (a n)) (Err e)
search_fails a (Unfits u) h = record { steps = h.steps; from = λ n k. ap answer_of (h.from n k) }
search_fails a TooBig h = record { steps = h.steps; from = λ n k. ap answer_of (h.from n k) }
search_fails a TooDeep h = record { steps = h.steps; from = λ n k. ap answer_of (h.from n k) }
search_fails a NoMemory h = tt

pub search_ends : (table : Table) (old new : Marks) (a : ℕ → Look) (r : Result Bool SetFault)
    → Looks table old new a r → EndsAs (λ n. answer_of (a n)) r
search_ends table old new a (Ok true) h =
    record { steps = h.ends.steps; from = λ n k. ap answer_of (h.ends.from n k) }
search_ends table old new a (Ok false) h =
    record { steps = h.ends.steps; from = λ n k. ap answer_of (h.ends.from n k) }
search_ends table old new a (Err e) h = search_fails a e h
