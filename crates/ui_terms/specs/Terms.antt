-- Unions and type parameters: which types are in a union, and core types. Go specification,
-- "General interfaces", "Satisfying a type constraint", "Core types".
use Rattle.std.specs.Prelude.{ℕ, ◌+◌, Bool, true, false, ◌&&◌, ◌||◌, not, List, [], ◌∷◌}
use Rattle.std.specs.Prelude.{Option, Some, None, Ok, Err, if◌then◌else◌}
use Rattle.ui_types.specs.Ty.{Ty, Tys, iface, union, no_types, types, list_of}
use Rattle.ui_types.specs.Decls.{DeclTrees}
use Rattle.ui_types.specs.Same.{same_type}
use Rattle.ui_sets.specs.declared.fault.SetFault.TheVariants.{Unfit as Unfits}
use Rattle.ui_sets.specs.declared.fault.Unfit.TheVariants.{NotInUnion}
use Rattle.ui_sets.specs.Sites.{number_of}
use Rattle.ui_sets.specs.Needed.{Needs, ◌>>=◌, needed, bound_of}

-- one answer for each, up to the first that there is none for
abbrev pub each : {A B : Type 0} → (A → Needs B) → List A → Needs (List B)
each f [] = Ok []
each f (x ∷ xs) = f x >>= λ y. (each f xs >>= λ ys. Ok (y ∷ ys))

-- ---- terms
-- a term of a union
pub record TermTree : Type 0 where
  pub tilde : Bool
  pub ty : Ty

abbrev pub zipped : List Bool → Tys → List TermTree
zipped [] ts = []
zipped (m ∷ ms) no_types = []
zipped (m ∷ ms) (types t ts) = (record { tilde = m; ty = t }) ∷ zipped ms ts

-- the term that is one type
abbrev pub plain : Ty → TermTree
plain t = record { tilde = false; ty = t }

-- The terms of a union. What is no union, as only files made by hand can have it, counts as the
-- union of that one type.
abbrev pub terms_of : Ty → List TermTree
terms_of (union ms ts) = zipped ms ts
terms_of t = plain t ∷ []

-- the unions of a constraint; what is no interface counts as the empty one
abbrev pub unions_of : Ty → Tys
unions_of (iface ns ts c us) = us
unions_of _ = no_types

-- ---- what stands for a type where unions are asked
-- a term with its underlying type
pub record OwnTree : Type 0 where
  pub tilde : Bool
  pub ty : Ty
  pub under : Ty

-- the underlying type of a term is needed
abbrev pub own_term : DeclTrees → TermTree → Needs OwnTree
own_term ds t = needed ds t.ty >>= λ u. Ok (record { tilde = t.tilde; ty = t.ty; under = u })

abbrev pub own_union : DeclTrees → Ty → Needs (List OwnTree)
own_union ds u = each (own_term ds) (terms_of u)

-- the unions of a type parameter's constraint, by its number
abbrev pub own_of_bound : DeclTrees → Ty → Needs (List (List OwnTree))
own_of_bound ds u = each (own_union ds) (list_of (unions_of u))

abbrev pub own_of_param : DeclTrees → List Ty → ℕ → Needs (List (List OwnTree))
own_of_param ds bounds k = needed ds (bound_of bounds k) >>= own_of_bound ds

-- A type parameter has the unions of its constraint, and every other type stands for itself, as if
-- it were the one term of one union.
abbrev pub numbered_own : DeclTrees → List Ty → Ty → Option ℕ → Needs (List (List OwnTree))
numbered_own ds bounds t None = own_term ds (plain t) >>= λ o. Ok ((o ∷ []) ∷ [])
numbered_own ds bounds t (Some k) = own_of_param ds bounds k

abbrev pub own : DeclTrees → List Ty → Ty → Needs (List (List OwnTree))
own ds bounds t = numbered_own ds bounds t (number_of t)

-- ---- being in a union
-- a term as it is asked for: of `~T` the underlying type of T, which is needed
abbrev pub tilde_or : Bool → Needs Ty → Ty → Needs TermTree
tilde_or false under t = Ok (record { tilde = false; ty = t })
tilde_or true under t = under >>= λ u. Ok (record { tilde = true; ty = u })

abbrev pub asked : DeclTrees → TermTree → Needs TermTree
asked ds t = tilde_or t.tilde (needed ds t.ty) t.ty

-- `~T` takes the types whose underlying type is that of T, a term `~` among them; `T` takes the
-- type T alone
abbrev pub takes : TermTree → OwnTree → Bool
takes w o = if w.tilde then same_type o.under w.ty else (not o.tilde && same_type o.ty w.ty)

abbrev pub is_taken : List TermTree → OwnTree → Bool
is_taken [] o = false
is_taken (w ∷ ws) o = takes w o || is_taken ws o

abbrev pub are_all_taken : List TermTree → List OwnTree → Bool
are_all_taken ws [] = true
are_all_taken ws (o ∷ os) = is_taken ws o && are_all_taken ws os

-- all terms of one of its own unions are taken
abbrev pub is_one_taken : List TermTree → List (List OwnTree) → Bool
is_one_taken ws [] = false
is_one_taken ws (o ∷ os) = are_all_taken ws o || is_one_taken ws os

abbrev pub in_union : DeclTrees → List (List OwnTree) → Ty → Needs Bool
in_union ds os u = each (asked ds) (terms_of u) >>= λ ws. Ok (is_one_taken ws os)

-- the unions in their order, by number, up to the first that it isn't in
abbrev pub or_outside : ℕ → Needs (Unit {0}) → Bool → Needs (Unit {0})
or_outside k rest true = rest
or_outside k rest false = Err (Unfits (NotInUnion k))

abbrev pub in_unions : DeclTrees → List (List OwnTree) → ℕ → List Ty → Needs (Unit {0})
in_unions ds os k [] = Ok tt
in_unions ds os k (u ∷ us) = in_union ds os u >>= or_outside k (in_unions ds os (k + 1) us)

-- where no union is asked for, nothing is needed
abbrev pub unions_fit : DeclTrees → List Ty → Ty → List Ty → Needs (Unit {0})
unions_fit ds bounds t [] = Ok tt
unions_fit ds bounds t (u ∷ us) = own ds bounds t >>= λ os. in_unions ds os 0 (u ∷ us)

-- ---- core types
abbrev pub all_under : Ty → List OwnTree → Bool
all_under u [] = true
all_under u (o ∷ os) = same_type o.under u && all_under u os

-- the one underlying type of all terms of a union
abbrev pub one_of : List OwnTree → Option Ty
one_of [] = None
one_of (o ∷ os) = if all_under o.under (o ∷ os) then Some o.under else None

abbrev pub or_else : Option Ty → Option Ty → Option Ty
or_else None other = other
or_else (Some t) other = Some t

-- that of the first union that has one
abbrev pub first_one : List (List OwnTree) → Option Ty
first_one [] = None
first_one (o ∷ os) = or_else (one_of o) (first_one os)

-- The core type: the underlying type, and for a type parameter the one underlying type of all terms
-- of the first of its unions that has one.
abbrev pub numbered_core : DeclTrees → List Ty → Ty → Option ℕ → Needs (Option Ty)
numbered_core ds bounds t None = needed ds t >>= λ u. Ok (Some u)
numbered_core ds bounds t (Some k) = own_of_param ds bounds k >>= λ os. Ok (first_one os)

abbrev pub core_type : DeclTrees → List Ty → Ty → Needs (Option Ty)
core_type ds bounds t = numbered_core ds bounds t (number_of t)
