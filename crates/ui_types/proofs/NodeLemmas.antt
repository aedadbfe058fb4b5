-- What a node's ids say of it: whether it is of a table, its size and depth, and that equal trees have equal nodes.
use Rattle.std.proofs.Common.{◌≡◌, ℕ, ◌+◌, ◌≤◌, max, false, nat_eq, List, [], ◌∷◌, ◌++◌, length, refl, sym, ◌∙◌, ap, arith, true≢false, eq-eqb}
use Rattle.std.specs.Prelude.{All, map}
use Rattle.std.proofs.lemmas.List.Elements.{All-nil, All-cons, All-head, All-tail, All-weaker, All-append, All-map}
use Rattle.ui_types.specs.declared.id.TypeId.{TypeId}
use Rattle.ui_types.specs.declared.part.Field.{Field}
use Rattle.ui_types.specs.declared.part.Method.{Method}
use Rattle.ui_types.specs.declared.part.Term.{Term}
use Rattle.ui_types.specs.declared.node.TypeNode.{TypeNode}
use Rattle.ui_types.specs.declared.node.TypeNode.TheVariants.{Basic, Named, Pointer, Slice, Array, Map, Func, Struct, Iface, Union, Param}
use Rattle.ui_types.specs.Ty.{Ty, Tys, basic, named, pointer, slice, array, map_of, func, struct, iface, union, param, no_types, types, size, sizes, depth, depths, subst, substs}
use Rattle.ui_types.specs.Table.{Table, IsId, AreIds, IsNode, tree, trees, parts, parts_by, shown}
use Rattle.ui_types.specs.Nodes.{ids_of}
use Rattle.ui_types.specs.Entries.{IsIdBelow}
use Rattle.ui_types.specs.Trees.{same_tys}

module _ {X : Type 0} (P : X → Type 0) where
  All-left : (xs ys : List X) → All P (xs ++ ys) → All P xs
  All-left [] ys h = All-nil P
  All-left (x ∷ xs) ys h = All-cons P x xs (All-head P x (xs ++ ys) h) (All-left xs ys (All-tail P x (xs ++ ys) h))

  All-right : (xs ys : List X) → All P (xs ++ ys) → All P ys
  All-right [] ys h = h
  All-right (x ∷ xs) ys h = All-right xs ys (All-tail P x (xs ++ ys) h)

  All-of-map : {Y : Type 0} (f : Y → X) (ys : List Y) → All P (map f ys) → All (λ y. P (f y)) ys
  All-of-map f [] h = All-nil (λ y. P (f y))
  All-of-map f (y ∷ ys) h = All-cons (λ z. P (f z)) y ys (All-head P (f y) (map f ys) h) (All-of-map f ys (All-tail P (f y) (map f ys) h))

-- the ids of a node of the table are of the table
pub AreIds-ids_of : (table : Table) (node : TypeNode) → IsNode table node → AreIds table (ids_of node)
AreIds-ids_of table (Basic b) h = All-nil (IsId table)
AreIds-ids_of table (Named n args) h = h
AreIds-ids_of table (Pointer t) h = All-cons (IsId table) t [] h (All-nil (IsId table))
AreIds-ids_of table (Slice t) h = All-cons (IsId table) t [] h (All-nil (IsId table))
AreIds-ids_of table (Array len t) h = All-cons (IsId table) t [] h (All-nil (IsId table))
AreIds-ids_of table (Map k t) h = All-cons (IsId table) k (t ∷ []) h.0 (All-cons (IsId table) t [] h.1 (All-nil (IsId table)))
AreIds-ids_of table (Func ps rs) h = All-append (IsId table) ps rs h.0 h.1
AreIds-ids_of table (Struct fs) h = All-map (IsId table) (λ (f : Field). f.ty) fs h
AreIds-ids_of table (Iface ms c us) h = All-append (IsId table) (map (λ (m : Method). m.sig) ms) us (All-map (IsId table) (λ (m : Method). m.sig) ms h.0) h.1
AreIds-ids_of table (Union ts) h = All-map (IsId table) (λ (t : Term). t.ty) ts h
AreIds-ids_of table (Param k) h = All-nil (IsId table)

-- and back
pub IsNode-ids_of : (table : Table) (node : TypeNode) → AreIds table (ids_of node) → IsNode table node
IsNode-ids_of table (Basic b) h = tt
IsNode-ids_of table (Named n args) h = h
IsNode-ids_of table (Pointer t) h = All-head (IsId table) t [] h
IsNode-ids_of table (Slice t) h = All-head (IsId table) t [] h
IsNode-ids_of table (Array len t) h = All-head (IsId table) t [] h
IsNode-ids_of table (Map k t) h = (All-head (IsId table) k (t ∷ []) h, All-head (IsId table) t [] (All-tail (IsId table) k (t ∷ []) h))
IsNode-ids_of table (Func ps rs) h = (All-left (IsId table) ps rs h, All-right (IsId table) ps rs h)
IsNode-ids_of table (Struct fs) h = All-of-map (IsId table) (λ (f : Field). f.ty) fs h
IsNode-ids_of table (Iface ms c us) h =
    let sigs : List TypeId = map (λ (m : Method). m.sig) ms in
    (All-of-map (IsId table) (λ (m : Method). m.sig) ms (All-left (IsId table) sigs us h), All-right (IsId table) sigs us h)
IsNode-ids_of table (Union ts) h = All-of-map (IsId table) (λ (t : Term). t.ty) ts h
IsNode-ids_of table (Param k) h = tt

pub IsNode-below : (table : Table) (n : ℕ) (node : TypeNode) → n ≤ length table → All (IsIdBelow n) (ids_of node) → IsNode table node
IsNode-below table n node le h = IsNode-ids_of table node (All-weaker (IsIdBelow n) (IsId table) (λ t k. omega arith) (ids_of node) h)

pub below-IsNode : (table : Table) (n : ℕ) (node : TypeNode) → length table ≤ n → IsNode table node → All (IsIdBelow n) (ids_of node)
below-IsNode table n node le h = All-weaker (IsId table) (IsIdBelow n) (λ t k. omega arith) (ids_of node) (AreIds-ids_of table node h)

-- ---- the parts of a tree, in their order
abbrev pub join : Tys → Tys → Tys
join no_types us = us
join (types t ts) us = types t (join ts us)

abbrev pub parts_of : Ty → Tys
parts_of (basic b) = no_types
parts_of (named n ts) = ts
parts_of (pointer t) = types t no_types
parts_of (slice t) = types t no_types
parts_of (array len t) = types t no_types
parts_of (map_of k t) = types k (types t no_types)
parts_of (func ps rs) = join ps rs
parts_of (struct ns ts) = ts
parts_of (iface ns ts c us) = join ts us
parts_of (union ms ts) = ts
parts_of (param k) = no_types

sizes-join : (ts us : Tys) → sizes (join ts us) ≡ sizes ts + sizes us
sizes-join no_types us = omega arith
sizes-join (types t ts) us = let h : sizes (join ts us) ≡ sizes ts + sizes us = sizes-join ts us in omega arith

depths-join : (ts us : Tys) → depths (join ts us) ≡ max (depths ts) (depths us)
depths-join no_types us = omega arith
depths-join (types t ts) us = let h : depths (join ts us) ≡ max (depths ts) (depths us) = depths-join ts us in omega arith

substs-join : (args : List Ty) (ts us : Tys) → substs args (join ts us) ≡ join (substs args ts) (substs args us)
substs-join args no_types us = refl
substs-join args (types t ts) us = ap (λ (vs : Tys). types (subst args t) vs) (substs-join args ts us)

parts-append : (table : Table) (xs ys : List TypeId) → parts table (xs ++ ys) ≡ join (parts table xs) (parts table ys)
parts-append table [] ys = refl
parts-append table (x ∷ xs) ys = ap (λ (ts : Tys). types (tree table x) ts) (parts-append table xs ys)

pub parts-map : {P : Type 0} (f : P → TypeId) (table : Table) (ps : List P) → parts table (map f ps) ≡ parts_by f table ps
parts-map f table [] = refl
parts-map f table (p ∷ ps) = ap (λ (ts : Tys). types (tree table (f p)) ts) (parts-map f table ps)

pub size-parts_of : (t : Ty) → size t ≡ 1 + sizes (parts_of t)
size-parts_of (basic b) = refl
size-parts_of (named n ts) = refl
size-parts_of (pointer t) = omega arith
size-parts_of (slice t) = omega arith
size-parts_of (array len t) = omega arith
size-parts_of (map_of k t) = omega arith
size-parts_of (func ps rs) = ap (λ (n : ℕ). 1 + n) (sym (sizes-join ps rs))
size-parts_of (struct ns ts) = refl
size-parts_of (iface ns ts c us) = ap (λ (n : ℕ). 1 + n) (sym (sizes-join ts us))
size-parts_of (union ms ts) = refl
size-parts_of (param k) = refl

pub depth-parts_of : (t : Ty) → depth t ≡ 1 + depths (parts_of t)
depth-parts_of (basic b) = refl
depth-parts_of (named n ts) = refl
depth-parts_of (pointer t) = omega arith
depth-parts_of (slice t) = omega arith
depth-parts_of (array len t) = omega arith
depth-parts_of (map_of k t) = omega arith
depth-parts_of (func ps rs) = ap (λ (n : ℕ). 1 + n) (sym (depths-join ps rs))
depth-parts_of (struct ns ts) = refl
depth-parts_of (iface ns ts c us) = ap (λ (n : ℕ). 1 + n) (sym (depths-join ts us))
depth-parts_of (union ms ts) = refl
depth-parts_of (param k) = refl

-- the parts of a node's tree are those of its ids
pub parts_of-shown : (table : Table) (node : TypeNode) → parts_of (shown table node) ≡ parts table (ids_of node)
parts_of-shown table (Basic b) = refl
parts_of-shown table (Named n args) = refl
parts_of-shown table (Pointer t) = refl
parts_of-shown table (Slice t) = refl
parts_of-shown table (Array len t) = refl
parts_of-shown table (Map k t) = refl
parts_of-shown table (Func ps rs) = sym (parts-append table ps rs)
parts_of-shown table (Struct fs) = sym (parts-map (λ (f : Field). f.ty) table fs)
parts_of-shown table (Iface ms c us) =
    ap (λ (ts : Tys). join ts (parts table us)) (sym (parts-map (λ (m : Method). m.sig) table ms)) ∙ sym (parts-append table (map (λ (m : Method). m.sig) ms) us)
parts_of-shown table (Union ts) = sym (parts-map (λ (t : Term). t.ty) table ts)
parts_of-shown table (Param k) = refl

-- the size and the depth of a node's tree, by those of its parts
pub size-shown : (table : Table) (node : TypeNode) → size (shown table node) ≡ 1 + sizes (parts table (ids_of node))
size-shown table node = size-parts_of (shown table node) ∙ ap (λ (ts : Tys). 1 + sizes ts) (parts_of-shown table node)

pub depth-shown : (table : Table) (node : TypeNode) → depth (shown table node) ≡ 1 + depths (parts table (ids_of node))
depth-shown table node = depth-parts_of (shown table node) ∙ ap (λ (ts : Tys). 1 + depths ts) (parts_of-shown table node)

-- but for a parameter, substitution in a tree is substitution in its parts
pub parts_of-subst : (args : List Ty) (t : Ty) → ((k : ℕ) → t ≡ param k → ⊥) → parts_of (subst args t) ≡ substs args (parts_of t)
parts_of-subst args (basic b) no_param = refl
parts_of-subst args (named n ts) no_param = refl
parts_of-subst args (pointer t) no_param = refl
parts_of-subst args (slice t) no_param = refl
parts_of-subst args (array len t) no_param = refl
parts_of-subst args (map_of k t) no_param = refl
parts_of-subst args (func ps rs) no_param = sym (substs-join args ps rs)
parts_of-subst args (struct ns ts) no_param = refl
parts_of-subst args (iface ns ts c us) no_param = sym (substs-join args ts us)
parts_of-subst args (union ms ts) no_param = refl
parts_of-subst args (param k) no_param = absurd (no_param k refl)

-- ---- equal trees have equal ids
abbrev pub IsExact : Table → Type 0
IsExact table = (i j : TypeId) → IsId table i → IsId table j → tree table i ≡ tree table j → i ≡ j

same_ids : (table : Table) → IsExact table → (xs ys : List TypeId) → AreIds table xs → AreIds table ys → trees table xs ≡ trees table ys → xs ≡ ys
same_ids table ex [] [] p q e = refl
same_ids table ex [] (b ∷ ys) p q e = cc
same_ids table ex (a ∷ xs) [] p q e = cc
same_ids table ex (a ∷ xs) (b ∷ ys) p q e =
    let e1 : tree table a ≡ tree table b = cc in
    let e2 : trees table xs ≡ trees table ys = cc in
    let h1 : a ≡ b = ex a b (All-head (IsId table) a xs p) (All-head (IsId table) b ys q) e1 in
    let h2 : xs ≡ ys = same_ids table ex xs ys (All-tail (IsId table) a xs p) (All-tail (IsId table) b ys q) e2 in
    cc

same_list : (table : Table) → IsExact table → (xs ys : List TypeId) → AreIds table xs → AreIds table ys → parts table xs ≡ parts table ys → xs ≡ ys
same_list table ex xs ys p q e = same_ids table ex xs ys p q (same_tys _ _ e)

module _ {P L : Type 0} (label : P → L) (type_of : P → TypeId) (both : (p q : P) → label p ≡ label q → type_of p ≡ type_of q → p ≡ q) (table : Table) (ex : IsExact table) where
  abbrev IsOf : P → Type 0
  IsOf p = IsId table (type_of p)

  same_parts : (ps qs : List P) → All IsOf ps → All IsOf qs → map label ps ≡ map label qs → parts_by type_of table ps ≡ parts_by type_of table qs → ps ≡ qs
  same_parts [] [] h k d e = refl
  same_parts [] (q ∷ qs) h k d e = cc
  same_parts (p ∷ ps) [] h k d e = cc
  same_parts (p ∷ ps) (q ∷ qs) h k d e =
      let d1 : label p ≡ label q = cc in
      let d2 : map label ps ≡ map label qs = cc in
      let e1 : tree table (type_of p) ≡ tree table (type_of q) = cc in
      let e2 : parts_by type_of table ps ≡ parts_by type_of table qs = cc in
      let h1 : p ≡ q = both p q d1 (ex (type_of p) (type_of q) (All-head IsOf p ps h) (All-head IsOf q qs k) e1) in
      let h2 : ps ≡ qs = same_parts ps qs (All-tail IsOf p ps h) (All-tail IsOf q qs k) d2 e2 in
      cc

abbrev kind : Ty → ℕ
kind (basic b) = 0
kind (named n ts) = 1
kind (pointer t) = 2
kind (slice t) = 3
kind (array len t) = 4
kind (map_of k t) = 5
kind (func ps rs) = 6
kind (struct ns ts) = 7
kind (iface ns ts c us) = 8
kind (union ms ts) = 9
kind (param k) = 10

differ : (m n : ℕ) → nat_eq m n ≡ false → m ≡ n → ⊥
differ m n unequal e = true≢false (sym (eq-eqb m n e) ∙ unequal)

pub same_node : (table : Table) → IsExact table → (a b : TypeNode) → IsNode table a → IsNode table b → shown table a ≡ shown table b → a ≡ b
same_node table ex (Basic a) (Basic b) p q e = cc
same_node table ex (Named m xs) (Named n ys) p q e =
    let e1 : parts table xs ≡ parts table ys = cc in
    let h : xs ≡ ys = same_list table ex xs ys p q e1 in
    cc
same_node table ex (Pointer a) (Pointer b) p q e =
    let e1 : tree table a ≡ tree table b = cc in
    ap Pointer (ex a b p q e1)
same_node table ex (Slice a) (Slice b) p q e =
    let e1 : tree table a ≡ tree table b = cc in
    ap Slice (ex a b p q e1)
same_node table ex (Array m a) (Array n b) p q e =
    let e1 : tree table a ≡ tree table b = cc in
    let h : a ≡ b = ex a b p q e1 in
    cc
same_node table ex (Map j a) (Map k b) p q e =
    let e1 : tree table j ≡ tree table k = cc in
    let e2 : tree table a ≡ tree table b = cc in
    let h1 : j ≡ k = ex j k p.0 q.0 e1 in
    let h2 : a ≡ b = ex a b p.1 q.1 e2 in
    cc
same_node table ex (Func xs cs) (Func ys ds) p q e =
    let e1 : parts table xs ≡ parts table ys = cc in
    let e2 : parts table cs ≡ parts table ds = cc in
    let h1 : xs ≡ ys = same_list table ex xs ys p.0 q.0 e1 in
    let h2 : cs ≡ ds = same_list table ex cs ds p.1 q.1 e2 in
    cc
same_node table ex (Struct fs) (Struct gs) p q e =
    let e1 : map (λ (f : Field). f.name) fs ≡ map (λ (f : Field). f.name) gs = cc in
    let e2 : parts_by (λ (f : Field). f.ty) table fs ≡ parts_by (λ (f : Field). f.ty) table gs = cc in
    ap Struct (same_parts (λ (f : Field). f.name) (λ (f : Field). f.ty) (λ f g m t i. record { name = m i; ty = t i }) table ex fs gs p q e1 e2)
same_node table ex (Iface ms c us) (Iface ns d vs) p q e =
    let e1 : map (λ (m : Method). m.name) ms ≡ map (λ (m : Method). m.name) ns = cc in
    let e2 : parts_by (λ (m : Method). m.sig) table ms ≡ parts_by (λ (m : Method). m.sig) table ns = cc in
    let e3 : parts table us ≡ parts table vs = cc in
    let h1 : ms ≡ ns = same_parts (λ (m : Method). m.name) (λ (m : Method). m.sig) (λ f g m t i. record { name = m i; sig = t i }) table ex ms ns p.0 q.0 e1 e2 in
    let h2 : us ≡ vs = same_list table ex us vs p.1 q.1 e3 in
    cc
same_node table ex (Union ts) (Union us) p q e =
    let e1 : map (λ (t : Term). t.tilde) ts ≡ map (λ (t : Term). t.tilde) us = cc in
    let e2 : parts_by (λ (t : Term). t.ty) table ts ≡ parts_by (λ (t : Term). t.ty) table us = cc in
    ap Union (same_parts (λ (t : Term). t.tilde) (λ (t : Term). t.ty) (λ f g m t i. record { tilde = m i; ty = t i }) table ex ts us p q e1 e2)
same_node table ex (Param a) (Param b) p q e = cc
same_node table ex a b p q e = absurd (differ (kind (shown table a)) (kind (shown table b)) refl (ap kind e))
