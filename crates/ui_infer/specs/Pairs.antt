-- What a formal type says of its type parameters beside an actual type. Go specification, "Type
-- unification".
use Rattle.std.specs.Prelude.{ℕ, Bool, true, false, nat_lt, List, [], ◌∷◌, ◌++◌, Option}
use Rattle.std.specs.Prelude.{Some, None, if◌then◌else◌}
use Rattle.ui_types.specs.Ty.{Ty, Tys, basic, named, pointer, slice, array, map_of, func, struct}
use Rattle.ui_types.specs.Ty.{iface, union, param, types}
use Rattle.ui_infer.specs.Shape.{same_shape}

-- a type parameter, by its number, and a type that it is to stand for
pub record BindingTree : Type 0 where
  pub param : ℕ
  pub ty : Ty

-- the number of the type parameter that the type is, where it is one of the first `n`
abbrev pub unknown : ℕ → Ty → Option ℕ
unknown n (param k) = if nat_lt k n then Some k else None
unknown n t = None

-- Path by path from left to right: where the formal type has one of the `n` parameters, the type
-- that the actual type has there;
-- nothing where the two have different shapes.
unfoldable mutual
  pub pairs : ℕ → Ty → Ty → List (Option BindingTree)
  pairs n (param k) u = if nat_lt k n then Some (record { param = k; ty = u }) ∷ [] else
      (if same_shape (param k) u then [] else None ∷ [])
  pairs n (basic b) u = if same_shape (basic b) u then [] else None ∷ []
  pairs n (named m ts) (named k us) = if same_shape (named m ts) (named k us) then pairs_all n ts
      us else None ∷ []
  pairs n (pointer t) (pointer u) = pairs n t u
  pairs n (slice t) (slice u) = pairs n t u
  pairs n (array len t) (array k u) = if same_shape (array len t) (array k u) then pairs n t u else
      None ∷ []
  pairs n (map_of k t) (map_of l u) = pairs n k l ++ pairs n t u
  pairs n (func ps rs) (func qs ss) = if same_shape (func ps rs) (func qs ss) then pairs_all n ps
      qs ++ pairs_all n rs ss else None ∷ []
  pairs n (struct ns ts) (struct ms us) = if same_shape (struct ns ts) (struct ms us) then
      pairs_all n ts us else None ∷ []
  pairs n (iface ns ts c vs) (iface ms us d ws) =
      if same_shape (iface ns ts c vs) (iface ms us d ws) then pairs_all n ts us
      ++ pairs_all n vs ws else None ∷ []
  pairs n (union ns ts) (union ms us) = if same_shape (union ns ts) (union ms us) then pairs_all n
      ts us else None ∷ []
  pairs n t u = None ∷ []

  pub pairs_all : ℕ → Tys → Tys → List (Option BindingTree)
  pairs_all n (types t ts) (types u us) = pairs n t u ++ pairs_all n ts us
  pairs_all n ts us = []

-- the bindings among them
abbrev pub bindings_of : List (Option BindingTree) → List BindingTree
bindings_of [] = []
bindings_of (None ∷ ps) = bindings_of ps
bindings_of (Some b ∷ ps) = b ∷ bindings_of ps

-- no two shapes differ
abbrev pub are_alike : List (Option BindingTree) → Bool
are_alike [] = true
are_alike (None ∷ ps) = false
are_alike (Some b ∷ ps) = are_alike ps
