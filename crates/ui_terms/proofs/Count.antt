-- How many unions an interface within the limits has.
use Rattle.std.proofs.Common.{◌≡◌, ◌+◌, ◌≤◌, Bool, List, [], ◌∷◌, length, ap, arith}
use Rattle.ui_base.specs.declared.name.Name.{Name}
use Rattle.ui_types.specs.declared.id.TypeId.{TypeId}
use Rattle.ui_types.specs.Ty.{Ty, Tys, iface, size, sizes}
use Rattle.ui_types.specs.Table.{Table, tree, parts, IsWithinLimits, max_size}
use Rattle.ui_sets.proofs.Fields.{size_some}

count_within : (table : Table) (ids : List TypeId) → length ids ≤ sizes (parts table ids)
count_within table [] = omega arith
count_within table (t ∷ ts) =
    let h : length ts ≤ sizes (parts table ts) = count_within table ts in
    let k : 1 ≤ size (tree table t) = size_some (tree table t) in omega arith

pub few_unions : (table : Table) (us : List TypeId) (ns : List Name) (ts : Tys) (c : Bool) (t : Ty)
    → iface ns ts c (parts table us) ≡ t → IsWithinLimits t → length us ≤ max_size
few_unions table us ns ts c t e h =
    let k : length us ≤ sizes (parts table us) = count_within table us in
    let s : size t ≤ max_size = h.small in
    let q : 1 + (sizes ts + sizes (parts table us)) ≡ size t = ap size e in omega arith
