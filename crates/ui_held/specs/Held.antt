-- Types that hold themselves by value. Go specification, "Struct types", "Array types".
use Rattle.std.specs.Prelude.{ℕ, ◌<◌, nat_eq, List, [], ◌∷◌, ◌++◌, length, position, slice_index_or, Option, Some, None}
use Rattle.ui_base.specs.declared.name.Name.{Name}
use Rattle.ui_types.specs.Ty.{Ty, Tys, basic, named, pointer, slice, array, map_of, func, struct, iface, union, param, no_types, types}
use Rattle.ui_types.specs.Decls.{name_eq}
use Rattle.ui_order.specs.Steps.{Leads}

-- the declared types that a type holds by value: itself, and those of an array's elements and of a struct's fields
abbrev mutual
  pub held : Ty → List Name
  held (basic b) = []
  held (named n args) = n ∷ []
  held (pointer t) = []
  held (slice t) = []
  held (array len t) = held t
  held (map_of k t) = []
  held (func ps rs) = []
  held (struct ns ts) = held_fields ts
  held (iface ns ts c us) = []
  held (union ms ts) = []
  held (param k) = []

  pub held_fields : Tys → List Name
  held_fields no_types = []
  held_fields (types t ts) = held t ++ held_fields ts

abbrev pub listed : Option ℕ → List ℕ
listed None = []
listed (Some k) = k ∷ []

-- the places of those names that are declared
abbrev pub places : List Name → List Name → List ℕ
places names [] = []
places names (n ∷ ns) = listed (position (name_eq n) names) ++ places names ns

-- the declared types that the underlying type of one holds, by their places
abbrev pub held_by : List Name → List Ty → ℕ → List ℕ
held_by names unders k = places names (held (slice_index_or unders k (param 0)))

-- a declared type holds itself, or another that leads back to it
abbrev pub IsInfinite : List Name → List Ty → ℕ → Type 0
IsInfinite names unders k = Leads nat_eq (held_by names unders) k k

-- the first that does
abbrev pub IsFirstInfinite : List Name → List Ty → Option ℕ → Type 0
IsFirstInfinite names unders None = (k : ℕ) → k < length names → IsInfinite names unders k → ⊥
IsFirstInfinite names unders (Some i) =
    (i < length names) × IsInfinite names unders i × ((k : ℕ) → k < i → IsInfinite names unders k → ⊥)
