-- Which types are comparable. Go specification, "Comparison operators", "Satisfying a type
-- constraint".
use Rattle.std.specs.Prelude.{◌≡◌, ℕ, Bool, true, false, List, [], ◌∷◌, map, Contains}
use Rattle.ui_types.specs.Ty.{Ty, slice, array, map_of, func, struct, iface, param, list_of}
use Rattle.ui_types.specs.Decls.{DeclTrees, under}
use Rattle.ui_sets.specs.Needed.{bound_of}
use Rattle.ui_terms.specs.Terms.{terms_of, unions_of}

-- slices, maps and functions, by the underlying type
abbrev pub is_incomparable : Ty → Bool
is_incomparable (slice t) = true
is_incomparable (map_of k t) = true
is_incomparable (func ps rs) = true
is_incomparable _ = false

-- the types of a struct's fields and of an array's elements, by the underlying type
abbrev pub parts_of : Ty → List Ty
parts_of (struct ns ts) = list_of ts
parts_of (array len t) = t ∷ []
parts_of _ = []

-- whether a constraint embeds `comparable`
abbrev pub asks_comparable : Ty → Bool
asks_comparable (iface ns ts c us) = c
asks_comparable _ = false

-- the types of a union's terms
abbrev pub term_types : Ty → List Ty
term_types u = map (λ w. w.ty) (terms_of u)

-- ---- the least set
-- one of the types is in the set
abbrev pub HasOne : (Ty → Bool) → List Ty → Type 0
HasOne S ts = (t : Ty) × Contains ts t × (S t ≡ true)

-- The set holds slices, maps and functions; structs and arrays with a part in the set; and type
-- parameters whose constraint has neither `comparable` nor a union whose terms are all outside the
-- set.
pub record IsClosed (ds : DeclTrees) (bounds : List Ty) (S : Ty → Bool) : Type 0 where
  pub kinds : (t : Ty) → is_incomparable (under ds t) ≡ true → S t ≡ true
  pub parts : (t : Ty) → HasOne S (parts_of (under ds t)) → S t ≡ true
  pub params : (k : ℕ) → asks_comparable (under ds (bound_of bounds k)) ≡ false
      → ((u : Ty) → Contains (list_of (unions_of (under ds (bound_of bounds k)))) u
      → HasOne S (term_types u)) → S (param k) ≡ true

-- it is in the least such set: in each of them
abbrev pub NotComparable : DeclTrees → List Ty → Ty → Type 0
NotComparable ds bounds t = (S : Ty → Bool) → IsClosed ds bounds S → S t ≡ true

-- what an answer tells of it
abbrev pub Tells : DeclTrees → List Ty → Ty → Bool → Type 0
Tells ds bounds t true = NotComparable ds bounds t → ⊥
Tells ds bounds t false = NotComparable ds bounds t
