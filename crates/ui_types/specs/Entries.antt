-- How a table is kept: each node stands after its parts, with the size and the depth of its tree.
use Rattle.std.specs.Prelude.{◌≡◌, ℕ, ◌<◌, List, [], ◌∷◌, ◌++◌, length, All, slice_index_or}
use Rattle.ui_types.specs.declared.id.TypeId.{TypeId}
use Rattle.ui_types.specs.declared.node.TypeNode.{TypeNode}
use Rattle.ui_types.specs.declared.extent.Extent.{Extent}
use Rattle.ui_types.specs.Ty.{Ty, param, size, depth}
use Rattle.ui_types.specs.Table.{Table, IsNode, shown, IsWithinLimits, counted_size, counted_depth}
use Rattle.ui_types.specs.Nodes.{ids_of}

abbrev pub Entry : Type 0
Entry = TypeNode × Extent

abbrev pub more_trees : Table → List Entry → Table
more_trees table [] = table
more_trees table (e ∷ es) = more_trees (table ++ shown table e.0 ∷ []) es

-- the trees of the entries
unfoldable pub trees_of : List Entry → Table
trees_of es = more_trees [] es

abbrev pub IsIdBelow : ℕ → TypeId → Type 0
IsIdBelow n t = t.0 < n

abbrev pub at : Table → ℕ → Ty
at table k = slice_index_or table k (param 0)

-- the size and the depth of a tree, as far as they are counted
pub record IsExtentOf (t : Ty) (e : Extent) : Type 0 where
  pub size_is : e.size ≡ counted_size (size t)
  pub depth_is : e.depth ≡ counted_depth (depth t)

pub record IsEntry (table : Table) (k : ℕ) (e : Entry) : Type 0 where
  pub below : All (IsIdBelow k) (ids_of e.0)
  pub unfolds : at table k ≡ shown table e.0
  pub size_is : e.1.size ≡ size (at table k)
  pub depth_is : e.1.depth ≡ depth (at table k)
  pub limits : IsWithinLimits (at table k)

pub record IsTable (es : List Entry) : Type 0 where
  pub count : length (trees_of es) ≡ length es
  pub entry : (k : ℕ) (d : Entry) → k < length es → IsEntry (trees_of es) k (slice_index_or es k d)
  pub exact : (i j : ℕ) → i < length es → j < length es → at (trees_of es) i ≡ at (trees_of es) j → i ≡ j

-- an entry that may be added
pub record IsEntryOf (table : Table) (e : Entry) : Type 0 where
  pub valid : IsNode table e.0
  pub size_is : e.1.size ≡ size (shown table e.0)
  pub depth_is : e.1.depth ≡ depth (shown table e.0)
  pub limits : IsWithinLimits (shown table e.0)

pub record HasNode (es : List Entry) (node : TypeNode) (k : ℕ) : Type 0 where
  pub within : k < length es
  pub same : (d : Entry) → (slice_index_or es k d).0 ≡ node

pub record IsFresh (es : List Entry) (node : TypeNode) : Type 0 where
  pub none : (k : ℕ) (d : Entry) → k < length es → (slice_index_or es k d).0 ≡ node → ⊥
