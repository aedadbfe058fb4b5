-- Ids that stay as the table grows, and trees of lists: what callers of a growing table use.
use Rattle.std.proofs.Common.{◌≡◌, ℕ, zero, suc, ◌+◌, ◌<◌, ◌≤◌, max, List, [], ◌∷◌, ◌++◌, length, take, get_or, refl, sym, ◌∙◌, ap, arith, length-append}
use Rattle.std.specs.Prelude.{All, map}
use Rattle.std.proofs.lemmas.List.{get_or_append_left, get_or_push, take_more}
use Rattle.std.proofs.lemmas.List.Elements.{All-head, All-tail, All-weaker}
use Rattle.ui_types.specs.declared.id.TypeId.{TypeId}
use Rattle.ui_types.specs.declared.part.Field.{Field}
use Rattle.ui_types.specs.declared.part.Method.{Method}
use Rattle.ui_types.specs.declared.part.Term.{Term}
use Rattle.ui_types.specs.declared.node.TypeNode.{TypeNode}
use Rattle.ui_types.specs.declared.node.TypeNode.TheVariants.{Basic, Named, Pointer, Slice, Array, Map, Func, Struct, Iface, Union, Param}
use Rattle.ui_types.specs.Ty.{Ty, Tys, named, pointer, slice, array, map_of, func, struct, iface, union, param, no_types, types, snoc, tys, list_of, size, sizes, depth, depths, subst, substs}
use Rattle.ui_types.specs.Table.{Table, IsId, AreIds, IsNode, tree, trees, parts, parts_by, shown, Grows, Denotes}

pub Grows-refl : (table : Table) → Grows table table
Grows-refl table = record { longer = omega arith; keeps = λ t h. refl }

pub Grows-trans : {a b c : Table} → Grows a b → Grows b c → Grows a c
Grows-trans f g = record {
  longer = let p = f.longer in let q = g.longer in omega arith;
  keeps = λ t h. g.keeps t (let p = f.longer in omega arith) ∙ f.keeps t h;
}

-- a table with one more type
pub Grows-push : (table : Table) (t : Ty) → Grows table (table ++ t ∷ [])
unfolding tree
Grows-push table t = record {
  longer = omega (arith, length-append table (t ∷ []));
  keeps = λ id h. get_or_append_left table (t ∷ []) (param 0) id.0 h;
}

pub tree-last : (table : Table) (t : Ty) (id : TypeId) → length table ≡ id.0 → tree (table ++ t ∷ []) id ≡ t
unfolding tree
tree-last table t id h = get_or_push table t (param 0) id.0 h

pub IsId-grows : {old new : Table} (id : TypeId) → Grows old new → IsId old id → IsId new id
IsId-grows id g h = let p = g.longer in omega arith

pub AreIds-grows : {old new : Table} (ids : List TypeId) → Grows old new → AreIds old ids → AreIds new ids
AreIds-grows {old} {new} ids g h = All-weaker (IsId old) (IsId new) (λ id k. IsId-grows id g k) ids h

pub trees-grows : {old new : Table} (ids : List TypeId) → Grows old new → AreIds old ids → trees new ids ≡ trees old ids
trees-grows [] g h = refl
trees-grows {old} {new} (t ∷ ts) g h = λ i. g.keeps t (All-head (IsId old) t ts h) i ∷ trees-grows ts g (All-tail (IsId old) t ts h) i

pub parts-grows : {old new : Table} (ids : List TypeId) → Grows old new → AreIds old ids → parts new ids ≡ parts old ids
parts-grows ids g h = ap tys (trees-grows ids g h)

module _ {P : Type 0} (type_of : P → TypeId) {old new : Table} where
  pub All_by-grows : (ps : List P) → Grows old new → All (λ p. IsId old (type_of p)) ps → All (λ p. IsId new (type_of p)) ps
  All_by-grows ps g h = All-weaker (λ p. IsId old (type_of p)) (λ p. IsId new (type_of p)) (λ p k. IsId-grows (type_of p) g k) ps h

  pub parts_by-grows : (ps : List P) → Grows old new → All (λ p. IsId old (type_of p)) ps → parts_by type_of new ps ≡ parts_by type_of old ps
  parts_by-grows [] g h = refl
  parts_by-grows (p ∷ ps) g h = λ i. types (g.keeps (type_of p) (All-head (λ q. IsId old (type_of q)) p ps h) i) (parts_by-grows ps g (All-tail (λ q. IsId old (type_of q)) p ps h) i)

pub IsNode-grows : {old new : Table} (node : TypeNode) → Grows old new → IsNode old node → IsNode new node
IsNode-grows (Basic b) g h = tt
IsNode-grows (Named n args) g h = AreIds-grows args g h
IsNode-grows (Pointer t) g h = IsId-grows t g h
IsNode-grows (Slice t) g h = IsId-grows t g h
IsNode-grows (Array len t) g h = IsId-grows t g h
IsNode-grows (Map k t) g h = (IsId-grows k g h.0, IsId-grows t g h.1)
IsNode-grows (Func ps rs) g h = (AreIds-grows ps g h.0, AreIds-grows rs g h.1)
IsNode-grows (Struct fs) g h = All_by-grows (λ (f : Field). f.ty) fs g h
IsNode-grows (Iface ms c us) g h = (All_by-grows (λ (m : Method). m.sig) ms g h.0, AreIds-grows us g h.1)
IsNode-grows (Union ts) g h = All_by-grows (λ (t : Term). t.ty) ts g h
IsNode-grows (Param k) g h = tt

pub shown-grows : {old new : Table} (node : TypeNode) → Grows old new → IsNode old node → shown new node ≡ shown old node
shown-grows (Basic b) g h = refl
shown-grows (Named n args) g h = ap (λ (ts : Tys). named n ts) (parts-grows args g h)
shown-grows (Pointer t) g h = ap pointer (g.keeps t h)
shown-grows (Slice t) g h = ap slice (g.keeps t h)
shown-grows (Array len t) g h = ap (λ (u : Ty). array len u) (g.keeps t h)
shown-grows (Map k t) g h = λ i. map_of (g.keeps k h.0 i) (g.keeps t h.1 i)
shown-grows (Func ps rs) g h = λ i. func (parts-grows ps g h.0 i) (parts-grows rs g h.1 i)
shown-grows (Struct fs) g h = ap (λ (ts : Tys). struct (map (λ f. f.name) fs) ts) (parts_by-grows (λ (f : Field). f.ty) fs g h)
shown-grows (Iface ms c us) g h = λ i. iface (map (λ m. m.name) ms) (parts_by-grows (λ (m : Method). m.sig) ms g h.0 i) c (parts-grows us g h.1 i)
shown-grows (Union ts) g h = ap (λ (us : Tys). union (map (λ t. t.tilde) ts) us) (parts_by-grows (λ (t : Term). t.ty) ts g h)
shown-grows (Param k) g h = refl

pub Denotes-grows : {old new : Table} {t : Ty} {id : TypeId} → Grows old new → Denotes old t id → Denotes new t id
Denotes-grows {id = id} g d = record { valid = IsId-grows id g d.valid; value = g.keeps id d.valid ∙ d.value }

pub list_of-tys : (ts : List Ty) → list_of (tys ts) ≡ ts
list_of-tys [] = refl
list_of-tys (t ∷ ts) = ap (λ (us : List Ty). t ∷ us) (list_of-tys ts)

pub tys-list_of : (ts : Tys) → tys (list_of ts) ≡ ts
tys-list_of no_types = refl
tys-list_of (types t ts) = ap (λ (us : Tys). types t us) (tys-list_of ts)

pub same_tys : (xs ys : List Ty) → tys xs ≡ tys ys → xs ≡ ys
same_tys xs ys e = sym (list_of-tys xs) ∙ ap list_of e ∙ list_of-tys ys

-- ---- one more part
pub sizes-snoc : (ts : Tys) (t : Ty) → sizes (snoc ts t) ≡ sizes ts + size t
sizes-snoc no_types t = omega arith
sizes-snoc (types u us) t = let h : sizes (snoc us t) ≡ sizes us + size t = sizes-snoc us t in omega arith

pub depths-snoc : (ts : Tys) (t : Ty) → depths (snoc ts t) ≡ max (depths ts) (depth t)
depths-snoc no_types t = omega arith
depths-snoc (types u us) t = let h : depths (snoc us t) ≡ max (depths us) (depth t) = depths-snoc us t in omega arith

pub substs-snoc : (args : List Ty) (ts : Tys) (t : Ty) → substs args (snoc ts t) ≡ snoc (substs args ts) (subst args t)
substs-snoc args no_types t = refl
substs-snoc args (types u us) t = ap (λ (vs : Tys). types (subst args u) vs) (substs-snoc args us t)

pub parts-push : (table : Table) (ids : List TypeId) (id : TypeId) → parts table (ids ++ id ∷ []) ≡ snoc (parts table ids) (tree table id)
parts-push table [] id = refl
parts-push table (t ∷ ts) id = ap (λ (vs : Tys). types (tree table t) vs) (parts-push table ts id)

-- a step of a loop over ids
pub parts-take : (table : Table) (ids : List TypeId) (i : ℕ) (d : TypeId) → i < length ids → parts table (take (i + 1) ids) ≡ snoc (parts table (take i ids)) (tree table (get_or ids i d))
parts-take table ids i d h = ap (λ (is : List TypeId). parts table is) (take_more ids i d h) ∙ parts-push table (take i ids) (get_or ids i d)

pub parts_take_at : (table : Table) (ids : List TypeId) (i : ℕ) (d : TypeId) → i < length ids → (get_or ids i d ≡ get_or ids i d) × (parts table (take (i + 1) ids) ≡ snoc (parts table (take i ids)) (tree table (get_or ids i d)))
parts_take_at table ids i d h = (refl, parts-take table ids i d h)

-- a part is smaller than the whole
pub size_of_part : (table : Table) (ids : List TypeId) (i : ℕ) (d : TypeId) → i < length ids → size (tree table (get_or ids i d)) ≤ sizes (parts table ids)
size_of_part table [] i d h = absurd (omega arith)
size_of_part table (t ∷ ts) zero d h = omega arith
size_of_part table (t ∷ ts) (suc i) d h = let le : size (tree table (get_or ts i d)) ≤ sizes (parts table ts) = size_of_part table ts i d (omega arith) in omega arith

-- lists of parts, with one more
pub ruleset lists = (sizes-snoc, depths-snoc, substs-snoc, parts-push, parts_take_at, size_of_part)

-- what callers of a growing table use
pub ruleset growth = (list_of-tys, Grows-trans, Grows-refl, IsId-grows, AreIds-grows, trees-grows, parts-grows, All_by-grows, parts_by-grows, IsNode-grows, shown-grows, Denotes-grows)
