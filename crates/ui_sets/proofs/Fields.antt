-- How many fields a struct within the limits has.
use Rattle.std.proofs.Common.{◌≡◌, ◌+◌, ◌≤◌, List, [], ◌∷◌, length, ap, arith}
use Rattle.std.specs.Prelude.{map}
use Rattle.ui_types.specs.declared.part.Field.{Field}
use Rattle.ui_types.specs.Ty.{Ty, basic, named, pointer, slice, array, map_of, func, struct, iface}
use Rattle.ui_types.specs.Ty.{union, param, size, sizes}
use Rattle.ui_types.specs.Table.{Table, tree, parts_by, IsWithinLimits, max_size}

pub size_some : (t : Ty) → 1 ≤ size t
size_some (basic b) = omega arith
size_some (named n args) = omega arith
size_some (pointer t) = omega arith
size_some (slice t) = omega arith
size_some (array len t) = omega arith
size_some (map_of k t) = omega arith
size_some (func ps rs) = omega arith
size_some (struct ns ts) = omega arith
size_some (iface ns ts c us) = omega arith
size_some (union ms ts) = omega arith
size_some (param k) = omega arith

count_within : (table : Table) (fs : List Field) → length fs ≤ sizes (parts_by (λ f. f.ty) table fs)
count_within table [] = omega arith
count_within table (f ∷ fs) =
    let h : length fs ≤ sizes (parts_by (λ f. f.ty) table fs) = count_within table fs in
    let k : 1 ≤ size (tree table f.ty) = size_some (tree table f.ty) in omega arith

pub few_fields : (table : Table) (fs : List Field) (t : Ty)
    → struct (map (λ f. f.name) fs) (parts_by (λ f. f.ty) table fs) ≡ t → IsWithinLimits t
    → length fs ≤ max_size
few_fields table fs t e h =
    let k : length fs ≤ sizes (parts_by (λ f. f.ty) table fs) = count_within table fs in
    let s : size t ≤ max_size = h.small in
    let q : 1 + sizes (parts_by (λ f. f.ty) table fs) ≡ size t = ap size e in omega arith
