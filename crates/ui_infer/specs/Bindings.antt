-- What type parameters are to stand for, one binding after another. Go specification, "Type
-- inference".
use Rattle.std.specs.Prelude.{ℕ, zero, suc, ◌+◌, nat_le, ◌==◌, Bool, true, false, ◌&&◌, ◌||◌, not}
use Rattle.std.specs.Prelude.{List, [], ◌∷◌, ◌++◌, length, replicate, slice_index_or, slice_set}
use Rattle.std.specs.Prelude.{Option, Some, None, option_map, Ok, Err, if◌then◌else◌}
use Rattle.std.specs.List.{list_any}
use Rattle.ui_base.specs.declared.kind.Basic.TheVariants.{Int, Int32, String, Bool as BoolKind}
use Rattle.ui_base.specs.declared.kind.Basic.TheVariants.{UntypedBool, UntypedInt, UntypedRune}
use Rattle.ui_base.specs.declared.kind.Basic.TheVariants.{UntypedString, UntypedNil}
use Rattle.ui_types.specs.Ty.{Ty, basic}
use Rattle.ui_types.specs.Decls.{DeclTrees}
use Rattle.ui_types.specs.Same.{same_type}
use Rattle.ui_infer.specs.Faults.{FaultTree, Infers, ◌>>=◌, mismatch, twice, not_inferred}
use Rattle.ui_infer.specs.Pairs.{BindingTree, unknown, pairs, bindings_of, are_alike}
use Rattle.ui_infer.specs.Top.{top_pairs}

-- an argument: its number in the call, its type, and whether it counts as an untyped constant
pub record ActualTree : Type 0 where
  pub index : ℕ
  pub ty : Ty
  pub constant : Bool

-- the bindings so far, and the first argument whose shape differs from its formal type's
pub record BoundTree : Type 0 where
  pub entries : List BindingTree
  pub differs : Option ℕ

-- the first type of a type parameter
abbrev pub first_of : ℕ → List BindingTree → Option Ty
first_of k [] = None
first_of k (b ∷ bs) = if b.param == k then Some b.ty else first_of k bs

-- ---- first: the explicit arguments
abbrev pub numbered : ℕ → List Ty → List BindingTree
numbered k [] = []
numbered k (t ∷ ts) = (record { param = k; ty = t }) ∷ numbered (k + 1) ts

-- ---- second: the arguments with a type, from left to right
-- one of the `n` type parameters without explicit argument, of which there are `e`; beside itself
-- a type shows those that it has
abbrev pub has_open : ℕ → ℕ → Ty → Bool
has_open n e t = list_any (λ b. nat_le e b.param) (bindings_of (pairs n t t))

abbrev pub is_untyped_nil : Ty → Bool
is_untyped_nil (basic UntypedNil) = true
is_untyped_nil _ = false

abbrev pub is_looked_at : ℕ → ℕ → ActualTree → Ty → Bool
is_looked_at n e a f = not a.constant && (not (is_untyped_nil a.ty) && has_open n e f)

abbrev pub earlier : {A : Type 0} → Option A → Option A → Option A
earlier None o = o
earlier (Some x) o = Some x

abbrev pub with_pairs : ℕ → BoundTree → List (Option BindingTree) → BoundTree
with_pairs index b ps = record {
  entries = b.entries ++ bindings_of ps;
  differs = earlier b.differs (if are_alike ps then None else Some index);
}

abbrev pub looked_at : DeclTrees → ℕ → ActualTree → Ty → BoundTree → Infers BoundTree
looked_at ds n a f b = top_pairs ds n f a.ty >>= λ ps. Ok (with_pairs a.index b ps)

abbrev pub argument : DeclTrees → ℕ → ℕ → ActualTree → Ty → BoundTree → Infers BoundTree
argument ds n e a f b = if is_looked_at n e a f then looked_at ds n a f b else Ok b

abbrev pub arguments : DeclTrees → ℕ → ℕ → List ActualTree → List Ty → BoundTree → Infers BoundTree
arguments ds n e (a ∷ rest) (f ∷ fs) b = argument ds n e a f b >>= arguments ds n e rest fs
arguments ds n e _ _ b = Ok b

-- ---- third: the core types
-- the bindings so far, and which type parameters were taken
pub record RoundTree : Type 0 where
  pub entries : List BindingTree
  pub taken : List Bool

-- a core type of another shape binds nothing
abbrev pub core_bindings : DeclTrees → ℕ → Option Ty → Ty → Infers (List BindingTree)
core_bindings ds n None t = Ok []
core_bindings ds n (Some c) t = top_pairs ds n c t
    >>= λ ps. Ok (if are_alike ps then bindings_of ps else [])

abbrev pub with_core : DeclTrees → ℕ → Option Ty → Ty → List BindingTree
    → Infers (List BindingTree)
with_core ds n core t es = core_bindings ds n core t >>= λ bs. Ok (es ++ bs)

-- a type parameter that wasn't taken before is taken where it has a binding, with its first
abbrev pub taken_with : DeclTrees → ℕ → ℕ → Option Ty → RoundTree → Option Ty → Infers RoundTree
taken_with ds n k core r None = Ok r
taken_with ds n k core r (Some t) =
    with_core ds n core t r.entries >>= λ es. Ok
    (record { entries = es; taken = slice_set r.taken k true })

abbrev pub turn : DeclTrees → ℕ → ℕ → Option Ty → RoundTree → Infers RoundTree
turn ds n k core r = if slice_index_or r.taken k true then Ok r else taken_with ds n k core r
    (first_of k r.entries)

-- a round, through the type parameters ascending
abbrev pub turns : DeclTrees → ℕ → ℕ → List (Option Ty) → RoundTree → Infers RoundTree
turns ds n k [] r = Ok r
turns ds n k (c ∷ cs) r = turn ds n k c r >>= turns ds n (k + 1) cs

abbrev pub rounds : DeclTrees → List (Option Ty) → ℕ → RoundTree → Infers RoundTree
rounds ds cores zero r = Ok r
rounds ds cores (suc m) r = turns ds (length cores) 0 cores r >>= rounds ds cores m

abbrev pub none_taken : List (Option Ty) → List BindingTree → RoundTree
none_taken cores es = record { entries = es; taken = replicate (length cores) false }

-- As many rounds as type parameters: by then a round takes none (the law `RoundsEnd`).
abbrev pub all_rounds : DeclTrees → List (Option Ty) → List BindingTree → Infers (List BindingTree)
all_rounds ds cores es = rounds ds cores (length cores) (none_taken cores es) >>= λ r. Ok r.entries

-- ---- fourth: untyped constants
abbrev pub is_untyped_rune : Ty → Bool
is_untyped_rune (basic UntypedRune) = true
is_untyped_rune _ = false

-- Default types; where an untyped rune is beside it int counts as int32. Go specification,
-- "Constants".
abbrev pub default_type : Bool → Ty → Ty
default_type rune (basic UntypedInt) = if rune then basic Int32 else basic Int
default_type rune (basic UntypedRune) = basic Int32
default_type rune (basic UntypedString) = basic String
default_type rune (basic UntypedBool) = basic BoolKind
default_type rune t = t

-- the type parameter that is alone the formal type of an untyped constant
abbrev pub alone : ℕ → ActualTree → Ty → Option ℕ
alone n a f = if a.constant then unknown n f else None

abbrev pub is_number : ℕ → Option ℕ → Bool
is_number k None = false
is_number k (Some j) = j == k

abbrev pub is_rune_of : ℕ → ℕ → ActualTree → Ty → Bool
is_rune_of n k a f = is_number k (alone n a f) && is_untyped_rune a.ty

abbrev pub has_rune : ℕ → ℕ → List ActualTree → List Ty → Bool
has_rune n k (a ∷ rest) (f ∷ fs) = is_rune_of n k a f || has_rune n k rest fs
has_rune n k _ _ = false

abbrev pub is_some : {A : Type 0} → Option A → Bool
is_some None = false
is_some (Some x) = true

-- nothing where another step binds the type parameter
abbrev pub unless_bound : Bool → ℕ → Ty → List BindingTree
unless_bound true k t = []
unless_bound false k t = (record { param = k; ty = t }) ∷ []

abbrev pub constant : (ℕ → Bool) → (ℕ → Bool) → Ty → Option ℕ → List BindingTree
constant bound rune t None = []
constant bound rune t (Some k) = unless_bound (bound k) k (default_type (rune k) t)

abbrev pub constants : ℕ → (ℕ → Bool) → (ℕ → Bool) → List ActualTree → List Ty → List BindingTree
constants n bound rune (a ∷ rest) (f ∷ fs) = constant bound rune a.ty (alone n a f)
    ++ constants n bound rune rest fs
constants n bound rune _ _ = []

abbrev pub unbound_constants : ℕ → List BindingTree → List Ty → List ActualTree → List BindingTree
unbound_constants n es formals actuals =
    constants n (λ k. is_some (first_of k es)) (λ k. has_rune n k actuals formals) actuals formals

-- ---- what the bindings say together
-- the first type of a type parameter, and the next that differs from it
pub record KnownTree : Type 0 where
  pub first : Option Ty
  pub other : Option Ty

-- the first type of a type parameter that differs from this one
abbrev pub other_of : ℕ → Ty → List BindingTree → Option Ty
other_of k t [] = None
other_of k t (b ∷ bs) = if (b.param == k) && not (same_type b.ty t) then Some b.ty else other_of k
    t bs

abbrev pub other_than : ℕ → Option Ty → List BindingTree → Option Ty
other_than k None es = None
other_than k (Some t) es = other_of k t es

abbrev pub known_of : ℕ → List BindingTree → KnownTree
known_of k es = record { first = first_of k es; other = other_than k (first_of k es) es }

-- the same of `m` type parameters, from number `k` on
abbrev pub known_from : ℕ → ℕ → List BindingTree → List KnownTree
known_from k zero es = []
known_from k (suc m) es = known_of k es ∷ known_from (k + 1) m es

abbrev pub twice_with : ℕ → Option Ty → Option Ty → Option FaultTree
twice_with k (Some t) (Some u) = Some (twice k t u)
twice_with k _ _ = None

abbrev pub twice_at : ℕ → KnownTree → Option FaultTree
twice_at k u = twice_with k u.first u.other

-- the least type parameter with two types
abbrev pub first_twice : ℕ → List KnownTree → Option FaultTree
first_twice k [] = None
first_twice k (u ∷ us) = earlier (twice_at k u) (first_twice (k + 1) us)

abbrev pub type_at : ℕ → Option Ty → Infers Ty
type_at k None = Err (not_inferred k)
type_at k (Some t) = Ok t

-- the type of each, or the least without any
abbrev pub solution : ℕ → List KnownTree → Infers (List Ty)
solution k [] = Ok []
solution k (u ∷ us) = type_at k u.first >>= λ t. (solution (k + 1) us >>= λ ts. Ok (t ∷ ts))

abbrev pub unless : {A : Type 0} → Option FaultTree → Infers A → Infers A
unless None next = next
unless (Some fault) next = Err fault

abbrev pub solved : List KnownTree → Infers (List Ty)
solved us = unless (first_twice 0 us) (solution 0 us)

-- a mismatch is told first, then two types of one type parameter, then none
abbrev pub verdict : ℕ → BoundTree → Infers (List Ty)
verdict n b = unless (option_map mismatch b.differs) (solved (known_from 0 n b.entries))

abbrev pub explicit_bound : List Ty → BoundTree
explicit_bound explicit = record { entries = numbered 0 explicit; differs = None }

-- with the untyped constants
abbrev pub concluded : ℕ → BoundTree → List Ty → List ActualTree → Infers (List Ty)
concluded n b formals actuals =
    verdict n (record {
      entries = b.entries ++ unbound_constants n b.entries formals actuals;
      differs = b.differs;
    })

-- The type arguments, where each type parameter has its core type in the list, and each argument
-- its formal type.
abbrev pub inferred : DeclTrees → List (Option Ty) → List Ty → List ActualTree → List Ty
    → Infers (List Ty)
inferred ds cores formals actuals explicit =
    arguments ds (length cores) (length explicit) actuals formals (explicit_bound explicit)
    >>= λ b.
    (all_rounds ds cores b.entries >>= λ es. concluded (length cores)
    (record { entries = es; differs = b.differs }) formals actuals)
