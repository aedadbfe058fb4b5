-- How the texts of a type are counted: those of its node, and those of its parts, each part once.
use Rattle.std.specs.Prelude.{◌≡◌, ℕ, List, map, Some}
use Rattle.std.specs.List.{sum_by}
use Rattle.indexmap.specs.IndexMap.{get, IndexMap}
use Rattle.ui_types.specs.declared.id.TypeId.{TypeId}
use Rattle.ui_types.specs.declared.node.TypeNode.{TypeNode}
use Rattle.ui_types.specs.declared.node.TypeNode.TheVariants.{Named, Struct, Iface}
use Rattle.ui_types.specs.contracts.id.TypeIdPartialEq.TheImpl.{ghosts as ids}
use Rattle.ui_types.specs.Table.{Table, tree}
use Rattle.ui_weight.specs.Weight.{name_bytes, names_bytes, texts, counted}

-- the bytes of the names that stand in a node itself
abbrev pub own_texts : TypeNode → ℕ
own_texts (Named n args) = name_bytes n
own_texts (Struct fs) = names_bytes (map (λ f. f.name) fs)
own_texts (Iface ms c us) = names_bytes (map (λ m. m.name) ms)
own_texts _ = 0

-- the bytes of the names in the types of these ids
abbrev pub texts_by : Table → List TypeId → ℕ
texts_by table ts = sum_by (λ t. texts (tree table t)) ts

-- what is kept of each type that was counted
abbrev pub IsMemo : {S : Type 0} → Table → IndexMap TypeId ℕ S → Type 0
IsMemo table memo = (t : TypeId) (n : ℕ) → get ids.eq memo t ≡ Some n → n ≡ counted (texts (tree table t))
