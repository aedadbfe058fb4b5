-- The ids that a node holds.
use Rattle.std.specs.Prelude.{List, [], ◌∷◌, ◌++◌, length, map, take, drop, slice_index_or}
use Rattle.ui_types.specs.declared.id.TypeId.{TypeId}
use Rattle.ui_types.specs.declared.node.TypeNode.{TypeNode}
use Rattle.ui_types.specs.declared.node.TypeNode.TheVariants.{Basic, Named, Pointer, Slice, Array, Map, Func, Struct, Iface, Union, Param}
use Rattle.ui_types.specs.Parts.{with_types}

-- the ids, in their order
abbrev pub ids_of : TypeNode → List TypeId
ids_of (Basic b) = []
ids_of (Named n args) = args
ids_of (Pointer t) = t ∷ []
ids_of (Slice t) = t ∷ []
ids_of (Array len t) = t ∷ []
ids_of (Map k t) = k ∷ t ∷ []
ids_of (Func ps rs) = ps ++ rs
ids_of (Struct fs) = map (λ f. f.ty) fs
ids_of (Iface ms c us) = map (λ m. m.sig) ms ++ us
ids_of (Union ts) = map (λ t. t.ty) ts
ids_of (Param k) = []

-- the node with as many other ids in their places
abbrev pub node_with : TypeNode → List TypeId → TypeNode
node_with (Basic b) ids = Basic b
node_with (Named n args) ids = Named n ids
node_with (Pointer t) ids = Pointer (slice_index_or ids 0 t)
node_with (Slice t) ids = Slice (slice_index_or ids 0 t)
node_with (Array len t) ids = Array len (slice_index_or ids 0 t)
node_with (Map k t) ids = Map (slice_index_or ids 0 k) (slice_index_or ids 1 t)
node_with (Func ps rs) ids = Func (take (length ps) ids) (drop (length ps) ids)
node_with (Struct fs) ids = Struct (with_types (λ f t. record f { ty = t }) fs ids)
node_with (Iface ms c us) ids = Iface (with_types (λ m t. record m { sig = t }) ms (take (length ms) ids)) c (drop (length ms) ids)
node_with (Union ts) ids = Union (with_types (λ u t. record u { ty = t }) ts ids)
node_with (Param k) ids = Param k
