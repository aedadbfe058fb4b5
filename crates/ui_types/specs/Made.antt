-- What a substitution keeps of the types that it has done.
use Rattle.std.specs.Prelude.{◌≡◌, ◌≤◌, List, Some, IsSomeAnd}
use Rattle.std.specs.declared.hash.FoldHasher.{FoldHasher}
use Rattle.std.specs.declared.hash.BuildHasherDefault.{BuildHasherDefault}
use Rattle.std.specs.HashMap.{get, HashMap}
use Rattle.ui_types.specs.declared.id.TypeId.{TypeId}
use Rattle.ui_types.specs.declared.made.Made.{Made}
use Rattle.ui_types.specs.declared.made.MadeParts.{MadeParts}
use Rattle.ui_types.specs.contracts.id.TypeIdPartialEq.TheImpl.{ghosts as ids}
use Rattle.ui_types.specs.Ty.{Ty, Tys, sizes, depths, subst}
use Rattle.ui_types.specs.Table.{Table, IsId, tree, Denotes, DenoteAll, IsWithinLimits, max_size, max_depth, counted_size, counted_depth}
use Rattle.ui_types.specs.Entries.{IsExtentOf}

-- the tree's extent, and its id where it is within the limits
pub record IsMade (table : Table) (t : Ty) (m : Made) : Type 0 where
  pub extent : IsExtentOf t m.extent
  pub there : IsWithinLimits t → IsSomeAnd m.id (Denotes table t)

pub record AreWithinLimits (ts : Tys) : Type 0 where
  pub small : sizes ts ≤ max_size
  pub shallow : depths ts ≤ max_depth

-- the same of parts together
pub record AreMade (table : Table) (ts : Tys) (m : MadeParts) : Type 0 where
  pub size_is : m.extent.size ≡ counted_size (sizes ts)
  pub depth_is : m.extent.depth ≡ counted_depth (depths ts)
  pub there : AreWithinLimits ts → DenoteAll table ts m.ids.items

abbrev pub MemoMap : Type 0
MemoMap = HashMap TypeId Made (BuildHasherDefault FoldHasher)

-- each id that is kept has what its tree becomes
pub record IsMemo (table : Table) (args : List Ty) (m : MemoMap) : Type 0 where
  pub each : (k : TypeId) (v : Made) → get ids.eq m k ≡ Some v → IsId table k × IsMade table (subst args (tree table k)) v
