-- The list of bindings in two environments that agree, and what it says.
use Rattle.std.proofs.Common.{ℕ, zero, suc, ◌+◌, ◌==◌, Bool, true, false, List, [], ◌∷◌}
use Rattle.std.proofs.Common.{◌++◌, length, refl}
use Rattle.std.specs.Prelude.{All, Option, Some, None, IfSome, option_map, Ok, Err, IfOk}
use Rattle.std.specs.Prelude.{if◌then◌else◌, slice_index_or}
use Rattle.std.proofs.lemmas.List.Elements.{All-nil, All-cons, All-append, All-head, All-tail}
use Rattle.ui_base.specs.declared.kind.Basic.TheVariants.{UntypedBool, UntypedInt, UntypedRune}
use Rattle.ui_base.specs.declared.kind.Basic.TheVariants.{UntypedString}
use Rattle.ui_types.specs.Ty.{Ty, basic}
use Rattle.ui_scopes.specs.Scopes.{World}
use Rattle.ui_scopes.specs.Local.{Names, TypeIn, Agree}
use Rattle.ui_infer.specs.Faults.{Infers, FaultTree, mismatch, ◌>>=◌}
use Rattle.ui_infer.specs.Pairs.{BindingTree, bindings_of, are_alike}
use Rattle.ui_infer.specs.Bindings.{ActualTree, BoundTree, RoundTree, KnownTree, first_of}
use Rattle.ui_infer.specs.Bindings.{numbered, is_looked_at, looked_at}
use Rattle.ui_infer.specs.Bindings.{argument, arguments, core_bindings, with_core, taken_with}
use Rattle.ui_infer.specs.Bindings.{turn, turns, rounds, none_taken, all_rounds, default_type}
use Rattle.ui_infer.specs.Bindings.{alone, is_some, unless_bound, constant, constants}
use Rattle.ui_infer.specs.Bindings.{unbound_constants, has_rune, known_of, known_from, type_at}
use Rattle.ui_infer.specs.Bindings.{solution, unless, first_twice, solved, verdict, explicit_bound}
use Rattle.ui_infer.specs.Bindings.{concluded, inferred}
use Rattle.ui_infer_local.specs.Laws.{CallIn}
use Rattle.ui_infer_local.proofs.PairsLocal.{Same, same_then, same_ok, same_if, BindingIn, PairsIn}
use Rattle.ui_infer_local.proofs.PairsLocal.{top_pairs_same}

abbrev BoundIn : Names → BoundTree → Type 0
BoundIn S b = All (BindingIn S) b.entries

abbrev RoundIn : Names → RoundTree → Type 0
RoundIn S r = All (BindingIn S) r.entries

abbrev OptionIn : Names → Option Ty → Type 0
OptionIn S o = IfSome o (TypeIn S)

abbrev ActualIn : Names → ActualTree → Type 0
ActualIn S a = TypeIn S a.ty

numbered_in : (S : Names) (k : ℕ) (ts : List Ty) → All (TypeIn S) ts
    → All (BindingIn S) (numbered k ts)
numbered_in S k [] h = All-nil (BindingIn S)
numbered_in S k (t ∷ ts) h = All-cons (BindingIn S) (record { param = k; ty = t })
    (numbered (k + 1) ts) (All-head (TypeIn S) t ts h)
    (numbered_in S (k + 1) ts (All-tail (TypeIn S) t ts h))

first_in : (S : Names) (k : ℕ) (es : List BindingTree) → All (BindingIn S) es
    → OptionIn S (first_of k es)
first_in S k [] h = tt
first_in S k (b ∷ bs) h = one_of (b.param == k) (All-head (BindingIn S) b bs h)
    (first_in S k bs (All-tail (BindingIn S) b bs h))
  where
    one_of : (r : Bool) → TypeIn S b.ty → OptionIn S (first_of k bs)
        → OptionIn S (if r then Some b.ty else first_of k bs)
    one_of true i j = i
    one_of false i j = j

module _ {S : Names} {w w' : World} (g : Agree S w w') where
  -- ---- arguments
  looked_at_same : (n : ℕ) (a : ActualTree) (f : Ty) (b : BoundTree) → ActualIn S a → TypeIn S f
      → BoundIn S b → Same (BoundIn S) (looked_at w.decls n a f b) (looked_at w'.decls n a f b)
  looked_at_same n a f b h k i =
      same_then (top_pairs_same g n f a.ty k h)
      (λ ps j. same_ok (All-append (BindingIn S) b.entries (bindings_of ps) i j))

  argument_same : (n e : ℕ) (a : ActualTree) (f : Ty) (b : BoundTree) → ActualIn S a → TypeIn S f
      → BoundIn S b → Same (BoundIn S) (argument w.decls n e a f b) (argument w'.decls n e a f b)
  argument_same n e a f b h k i = same_if (is_looked_at n e a f) (looked_at_same n a f b h k i)
      (same_ok i)

  arguments_same : (n e : ℕ) (xs : List ActualTree) (fs : List Ty) (b : BoundTree)
      → All (ActualIn S) xs → All (TypeIn S) fs → BoundIn S b
      → Same (BoundIn S) (arguments w.decls n e xs fs b) (arguments w'.decls n e xs fs b)
  arguments_same n e [] fs b h k i = same_ok i
  arguments_same n e (a ∷ rest) [] b h k i = same_ok i
  arguments_same n e (a ∷ rest) (f ∷ fs) b h k i =
      same_then (argument_same n e a f b (All-head (ActualIn S) a rest h)
      (All-head (TypeIn S) f fs k) i)
      (λ c j. arguments_same n e rest fs c (All-tail (ActualIn S) a rest h)
      (All-tail (TypeIn S) f fs k) j)

  -- ---- core types
  core_same : (n : ℕ) (core : Option Ty) (t : Ty) → OptionIn S core → TypeIn S t
      → Same (All (BindingIn S)) (core_bindings w.decls n core t) (core_bindings w'.decls n core t)
  core_same n None t h k = same_ok (All-nil (BindingIn S))
  core_same n (Some c) t h k = same_then (top_pairs_same g n c t h k)
      (λ ps i. same_ok (by_shape (are_alike ps) ps i))
    where
      by_shape : (b : Bool) (ps : List (Option BindingTree)) → PairsIn S ps
          → All (BindingIn S) (if b then bindings_of ps else [])
      by_shape true ps i = i
      by_shape false ps i = All-nil (BindingIn S)

  with_core_same : (n : ℕ) (core : Option Ty) (t : Ty) (es : List BindingTree) → OptionIn S core
      → TypeIn S t → All (BindingIn S) es → Same (All (BindingIn S))
      (with_core w.decls n core t es) (with_core w'.decls n core t es)
  with_core_same n core t es h k i = same_then (core_same n core t h k)
      (λ bs j. same_ok (All-append (BindingIn S) es bs i j))

  taken_same : (n k : ℕ) (core : Option Ty) (r : RoundTree) (o : Option Ty) → OptionIn S core
      → RoundIn S r → OptionIn S o → Same (RoundIn S) (taken_with w.decls n k core r o)
      (taken_with w'.decls n k core r o)
  taken_same n k core r None h i j = same_ok i
  taken_same n k core r (Some t) h i j = same_then (with_core_same n core t r.entries h j i)
      (λ es l. same_ok l)

  turn_same : (n k : ℕ) (core : Option Ty) (r : RoundTree) → OptionIn S core → RoundIn S r
      → Same (RoundIn S) (turn w.decls n k core r) (turn w'.decls n k core r)
  turn_same n k core r h i = same_if (slice_index_or r.taken k true) (same_ok i)
      (taken_same n k core r (first_of k r.entries) h i (first_in S k r.entries i))

  turns_same : (n k : ℕ) (cs : List (Option Ty)) (r : RoundTree) → All (OptionIn S) cs
      → RoundIn S r → Same (RoundIn S) (turns w.decls n k cs r) (turns w'.decls n k cs r)
  turns_same n k [] r h i = same_ok i
  turns_same n k (c ∷ cs) r h i =
      same_then (turn_same n k c r (All-head (OptionIn S) c cs h) i)
      (λ s j. turns_same n (k + 1) cs s (All-tail (OptionIn S) c cs h) j)

  rounds_same : (cs : List (Option Ty)) (m : ℕ) (r : RoundTree) → All (OptionIn S) cs → RoundIn S r
      → Same (RoundIn S) (rounds w.decls cs m r) (rounds w'.decls cs m r)
  rounds_same cs zero r h i = same_ok i
  rounds_same cs (suc m) r h i = same_then (turns_same (length cs) 0 cs r h i)
      (λ s j. rounds_same cs m s h j)

  all_rounds_same : (cs : List (Option Ty)) (es : List BindingTree) → All (OptionIn S) cs
      → All (BindingIn S) es → Same (All (BindingIn S)) (all_rounds w.decls cs es)
      (all_rounds w'.decls cs es)
  all_rounds_same cs es h i = same_then (rounds_same cs (length cs) (none_taken cs es) h i)
      (λ r j. same_ok j)

-- ---- untyped constants
default_in : (S : Names) (rune : Bool) (t : Ty) → TypeIn S t → TypeIn S (default_type rune t)
default_in S true (basic UntypedInt) h = tt
default_in S false (basic UntypedInt) h = tt
default_in S rune (basic UntypedRune) h = tt
default_in S rune (basic UntypedString) h = tt
default_in S rune (basic UntypedBool) h = tt
default_in S rune t h = h

constant_in : (S : Names) (bound rune : ℕ → Bool) (t : Ty) (o : Option ℕ) → TypeIn S t
    → All (BindingIn S) (constant bound rune t o)
constant_in S bound rune t None h = All-nil (BindingIn S)
constant_in S bound rune t (Some k) h = by_bound (bound k)
  where
    by_bound : (b : Bool) → All (BindingIn S) (unless_bound b k (default_type (rune k) t))
    by_bound true = All-nil (BindingIn S)
    by_bound false = All-cons (BindingIn S) (record { param = k; ty = default_type (rune k) t }) []
        (default_in S (rune k) t h) (All-nil (BindingIn S))

constants_in : (S : Names) (n : ℕ) (bound rune : ℕ → Bool) (xs : List ActualTree) (fs : List Ty)
    → All (ActualIn S) xs → All (BindingIn S) (constants n bound rune xs fs)
constants_in S n bound rune [] fs h = All-nil (BindingIn S)
constants_in S n bound rune (a ∷ rest) [] h = All-nil (BindingIn S)
constants_in S n bound rune (a ∷ rest) (f ∷ fs) h =
    All-append (BindingIn S) (constant bound rune a.ty (alone n a f))
    (constants n bound rune rest fs)
    (constant_in S bound rune a.ty (alone n a f) (All-head (ActualIn S) a rest h))
    (constants_in S n bound rune rest fs (All-tail (ActualIn S) a rest h))

-- ---- what the bindings say together
abbrev KnownIn : Names → KnownTree → Type 0
KnownIn S u = OptionIn S u.first

known_in : (S : Names) (k m : ℕ) (es : List BindingTree) → All (BindingIn S) es
    → All (KnownIn S) (known_from k m es)
known_in S k zero es h = All-nil (KnownIn S)
known_in S k (suc m) es h = All-cons (KnownIn S) (known_of k es) (known_from (k + 1) m es)
    (first_in S k es h) (known_in S (k + 1) m es h)

solution_over : (S : Names) (k : ℕ) (o : Option Ty) (m : Infers (List Ty)) → OptionIn S o
    → IfOk m (All (TypeIn S))
    → IfOk (type_at k o >>= λ t. (m >>= λ ts. Ok (t ∷ ts))) (All (TypeIn S))
solution_over S k None m i j = tt
solution_over S k (Some t) (Ok ts) i j = All-cons (TypeIn S) t ts i j
solution_over S k (Some t) (Err e) i j = tt

solution_in : (S : Names) (k : ℕ) (us : List KnownTree) → All (KnownIn S) us
    → IfOk (solution k us) (All (TypeIn S))
solution_in S k [] h = All-nil (TypeIn S)
solution_in S k (u ∷ us) h =
    solution_over S k u.first (solution (k + 1) us) (All-head (KnownIn S) u us h)
    (solution_in S (k + 1) us (All-tail (KnownIn S) u us h))

unless_in : {A : Type 0} (P : A → Type 0) (o : Option FaultTree) (m : Infers A) → IfOk m P
    → IfOk (unless o m) P
unless_in P None m h = h
unless_in P (Some e) m h = tt

verdict_in : (S : Names) (n : ℕ) (b : BoundTree) → BoundIn S b
    → IfOk (verdict n b) (All (TypeIn S))
verdict_in S n b h =
    let us = known_from 0 n b.entries in
    unless_in (All (TypeIn S)) (option_map mismatch b.differs) (solved us)
    (unless_in (All (TypeIn S)) (first_twice 0 us) (solution 0 us)
    (solution_in S 0 us (known_in S 0 n b.entries h)))

concluded_in : (S : Names) (n : ℕ) (b : BoundTree) (fs : List Ty) (xs : List ActualTree)
    → BoundIn S b → All (ActualIn S) xs → IfOk (concluded n b fs xs) (All (TypeIn S))
concluded_in S n b fs xs h k =
    verdict_in S n (record {
      entries = b.entries
          ++ unbound_constants n b.entries fs xs;
      differs = b.differs;
    })
    (All-append (BindingIn S) b.entries (unbound_constants n b.entries fs xs) h
    (constants_in S n (λ j. is_some (first_of j b.entries)) (λ j. has_rune n j xs fs) xs fs k))

pub inferred_same : {S : Names} {w w' : World} → Agree S w w'
    → (cores : List (Option Ty)) (formals : List Ty) (actuals : List ActualTree)
    (explicit : List Ty) → CallIn S cores formals actuals explicit
    → Same (All (TypeIn S)) (inferred w.decls cores formals actuals explicit)
    (inferred w'.decls cores formals actuals explicit)
inferred_same {S} g cores formals actuals explicit h =
    same_then (arguments_same g (length cores) (length explicit) actuals formals
    (explicit_bound explicit) h.actuals_in h.formals_in
    (numbered_in S 0 explicit h.explicit_in))
    (λ b i. same_then (all_rounds_same g cores b.entries h.cores_in i)
    (λ es j. record {
      equal = refl;
      within = concluded_in S (length cores) (record { entries = es; differs = b.differs })
          formals actuals j h.actuals_in;
    }))
