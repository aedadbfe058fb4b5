-- A table of types is the list of its trees: an id is a place in it. This project's own.
use Rattle.std.specs.Prelude.{◌≡◌, ℕ, ◌-◌, ◌^◌, ◌<◌, ◌≤◌, min, ⊤, List, length, map, All, slice_index_or, Result, MatchResult}
use Rattle.ui_types.specs.declared.id.TypeId.{TypeId}
use Rattle.ui_types.specs.declared.node.TypeNode.{TypeNode}
use Rattle.ui_types.specs.declared.node.TypeNode.TheVariants.{Basic, Named, Pointer, Slice, Array, Map, Func, Struct, Iface, Union, Param}
use Rattle.ui_types.specs.declared.fault.TypeFault.{TypeFault}
use Rattle.ui_types.specs.declared.fault.TypeFault.TheVariants.{TooBig, TooDeep, NoMemory}
use Rattle.ui_types.specs.Ty.{Ty, Tys, basic, named, pointer, slice, array, map_of, func, struct, iface, union, param, tys, size, depth}

abbrev pub Table : Type 0
Table = List Ty

-- the largest size and depth of a tree
abbrev pub max_size : ℕ
max_size = 65536

abbrev pub max_depth : ℕ
max_depth = 256

-- the id is one of the table
abbrev pub IsId : Table → TypeId → Type 0
IsId table t = t.0 < length table

abbrev pub AreIds : Table → List TypeId → Type 0
AreIds table = All (IsId table)

-- the tree of an id
unfoldable pub tree : Table → TypeId → Ty
tree table t = slice_index_or table t.0 (param 0)

abbrev pub trees : Table → List TypeId → List Ty
trees table = map (tree table)

-- the trees of ids, as the parts of a tree
abbrev pub parts : Table → List TypeId → Tys
parts table ids = tys (trees table ids)

-- the trees of what holds an id each
abbrev pub parts_by : {P : Type 0} → (P → TypeId) → Table → List P → Tys
parts_by type_of table ps = tys (map (λ p. tree table (type_of p)) ps)

-- the ids of a node are of the table
abbrev pub IsNode : Table → TypeNode → Type 0
IsNode table (Basic b) = ⊤
IsNode table (Named n args) = AreIds table args
IsNode table (Pointer t) = IsId table t
IsNode table (Slice t) = IsId table t
IsNode table (Array len t) = IsId table t
IsNode table (Map k t) = IsId table k × IsId table t
IsNode table (Func ps rs) = AreIds table ps × AreIds table rs
IsNode table (Struct fs) = All (λ f. IsId table f.ty) fs
IsNode table (Iface ms c us) = All (λ m. IsId table m.sig) ms × AreIds table us
IsNode table (Union ts) = All (λ t. IsId table t.ty) ts
IsNode table (Param k) = ⊤

-- the tree of a node
abbrev pub shown : Table → TypeNode → Ty
shown table (Basic b) = basic b
shown table (Named n args) = named n (parts table args)
shown table (Pointer t) = pointer (tree table t)
shown table (Slice t) = slice (tree table t)
shown table (Array len t) = array len (tree table t)
shown table (Map k t) = map_of (tree table k) (tree table t)
shown table (Func ps rs) = func (parts table ps) (parts table rs)
shown table (Struct fs) = struct (map (λ f. f.name) fs) (parts_by (λ f. f.ty) table fs)
shown table (Iface ms c us) = iface (map (λ m. m.name) ms) (parts_by (λ m. m.sig) table ms) c (parts table us)
shown table (Union ts) = union (map (λ t. t.tilde) ts) (parts_by (λ t. t.ty) table ts)
shown table (Param k) = param k

-- old ids keep their trees
pub record Grows (old new : Table) : Type 0 where
  pub longer : length old ≤ length new
  pub keeps : (t : TypeId) → IsId old t → tree new t ≡ tree old t

-- the id is of the table, and denotes this tree
pub record Denotes (table : Table) (t : Ty) (id : TypeId) : Type 0 where
  pub valid : IsId table id
  pub value : tree table id ≡ t

-- the ids are of the table, and denote these trees
pub record DenoteAll (table : Table) (ts : Tys) (ids : List TypeId) : Type 0 where
  pub valid : AreIds table ids
  pub value : parts table ids ≡ ts

pub record IsWithinLimits (t : Ty) : Type 0 where
  pub small : size t ≤ max_size
  pub shallow : depth t ≤ max_depth

-- what is counted of a tree, up to the largest number of its type
abbrev pub counted_size : ℕ → ℕ
counted_size n = min n (2 ^ 64 - 1)

abbrev pub counted_depth : ℕ → ℕ
counted_depth n = min n (2 ^ 32 - 1)

-- Why a tree is refused: its size is told first. Any call may want memory.
abbrev pub IsFaultOf : Ty → TypeFault → Type 0
IsFaultOf t (TooBig n) = (max_size < size t) × (n ≡ counted_size (size t))
IsFaultOf t (TooDeep n) = (size t ≤ max_size) × (max_depth < depth t) × (n ≡ counted_depth (depth t))
IsFaultOf t NoMemory = ⊤

-- the result of a call that is to make this tree
abbrev pub Makes : Table → Ty → Result TypeId TypeFault → Type 0
Makes table t r = MatchResult r (λ id. Denotes table t id × IsWithinLimits t) (IsFaultOf t)
