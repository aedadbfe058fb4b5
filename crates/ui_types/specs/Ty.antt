-- Types as plain trees. Go specification, "Types". Aliases are expanded, and the methods of an interface are complete and ascending.
use Rattle.std.specs.Prelude.{ℕ, ◌+◌, max, Bool, List, [], ◌∷◌, slice_index_or}
use Rattle.ui_base.specs.declared.name.Name.{Name}
use Rattle.ui_base.specs.declared.kind.Basic.{Basic}

mutual
  -- Two types are identical exactly where their trees are equal. Go specification, "Type identity".
  pub data Ty : Type 0 where
    basic : Basic → Ty
    -- a declared type with its type arguments
    named : Name → Tys → Ty
    pointer : Ty → Ty
    slice : Ty → Ty
    array : ℕ → Ty → Ty
    -- a map's key and element
    map_of : Ty → Ty → Ty
    -- the types of the parameters and of the results
    func : Tys → Tys → Ty
    -- the fields' names and types
    struct : List Name → Tys → Ty
    -- the methods' names and signatures, whether it embeds `comparable`, and its unions
    iface : List Name → Tys → Bool → Tys → Ty
    -- which terms have a `~`, and the terms' types
    union : List Bool → Tys → Ty
    -- a type parameter of the declaration around, by its place
    param : ℕ → Ty

  pub data Tys : Type 0 where
    no_types : Tys
    types : Ty → Tys → Tys

-- How many nodes a tree has. This project's own measure.
abbrev mutual
  pub size : Ty → ℕ
  size (basic b) = 1
  size (named n args) = 1 + sizes args
  size (pointer t) = 1 + size t
  size (slice t) = 1 + size t
  size (array len t) = 1 + size t
  size (map_of k t) = 1 + (size k + size t)
  size (func ps rs) = 1 + (sizes ps + sizes rs)
  size (struct ns ts) = 1 + sizes ts
  size (iface ns ts c us) = 1 + (sizes ts + sizes us)
  size (union ms ts) = 1 + sizes ts
  size (param k) = 1

  pub sizes : Tys → ℕ
  sizes no_types = 0
  sizes (types t ts) = size t + sizes ts

-- How many nodes its longest path has. This project's own measure.
abbrev mutual
  pub depth : Ty → ℕ
  depth (basic b) = 1
  depth (named n args) = 1 + depths args
  depth (pointer t) = 1 + depth t
  depth (slice t) = 1 + depth t
  depth (array len t) = 1 + depth t
  depth (map_of k t) = 1 + max (depth k) (depth t)
  depth (func ps rs) = 1 + max (depths ps) (depths rs)
  depth (struct ns ts) = 1 + depths ts
  depth (iface ns ts c us) = 1 + max (depths ts) (depths us)
  depth (union ms ts) = 1 + depths ts
  depth (param k) = 1

  pub depths : Tys → ℕ
  depths no_types = 0
  depths (types t ts) = max (depth t) (depths ts)

-- Each type parameter is replaced by its argument, and stays where it has none. Go specification, "Instantiations".
abbrev mutual
  pub subst : List Ty → Ty → Ty
  subst args (basic b) = basic b
  subst args (named n ts) = named n (substs args ts)
  subst args (pointer t) = pointer (subst args t)
  subst args (slice t) = slice (subst args t)
  subst args (array len t) = array len (subst args t)
  subst args (map_of k t) = map_of (subst args k) (subst args t)
  subst args (func ps rs) = func (substs args ps) (substs args rs)
  subst args (struct ns ts) = struct ns (substs args ts)
  subst args (iface ns ts c us) = iface ns (substs args ts) c (substs args us)
  subst args (union ms ts) = union ms (substs args ts)
  subst args (param k) = slice_index_or args k (param k)

  pub substs : List Ty → Tys → Tys
  substs args no_types = no_types
  substs args (types t ts) = types (subst args t) (substs args ts)

-- a list of trees as the parts of a tree
abbrev pub tys : List Ty → Tys
tys [] = no_types
tys (t ∷ ts) = types t (tys ts)

-- and back
abbrev pub list_of : Tys → List Ty
list_of no_types = []
list_of (types t ts) = t ∷ list_of ts

-- the parts with one more
abbrev pub snoc : Tys → Ty → Tys
snoc no_types u = types u no_types
snoc (types t ts) u = types t (snoc ts u)
