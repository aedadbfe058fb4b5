-- Nodes with one type in the place of each part: two such are equal exactly where the types have
-- the same shape.
use Rattle.std.proofs.Common.{◌≡◌, Bool, ℕ, zero, suc, List}
use Rattle.std.proofs.Common.{[], ◌∷◌, ◌++◌, length, take, drop, replicate, Decides, refl, sym}
use Rattle.std.proofs.Common.{◌∙◌, ap, arith, rules, subst as transport}
use Rattle.std.specs.Prelude.{map, Result, Ok, Err, IfOk}
use Rattle.std.proofs.lemmas.List.{length-map, length-append, length-take, take-append-drop}
use Rattle.std.proofs.lemmas.List.Elements.{All-nil, All-cons}
use Rattle.ui_types.specs.declared.id.TypeId.{TypeId}
use Rattle.ui_types.specs.declared.part.Field.{Field}
use Rattle.ui_types.specs.declared.part.Method.{Method}
use Rattle.ui_types.specs.declared.part.Term.{Term}
use Rattle.ui_types.specs.declared.node.TypeNode.{TypeNode}
use Rattle.ui_types.specs.declared.node.TypeNode.TheVariants.{Basic, Named, Pointer, Slice, Array}
use Rattle.ui_types.specs.declared.node.TypeNode.TheVariants.{Map, Func, Struct, Iface, Union}
use Rattle.ui_types.specs.declared.node.TypeNode.TheVariants.{Param}
use Rattle.ui_types.specs.Ty.{Ty, Tys, basic, named, pointer, slice, array, map_of, func, struct}
use Rattle.ui_types.specs.Ty.{iface, union, param, no_types, types}
use Rattle.ui_types.specs.Table.{Table, IsId, AreIds, IsNode, tree, parts, parts_by, shown}
use Rattle.ui_types.specs.Parts.{with_types}
use Rattle.ui_types.specs.Nodes.{ids_of, node_with}
use Rattle.ui_types.proofs.NodeLemmas.{parts-map, IsNode-ids_of, IsExact, same_node}
use Rattle.ui_types.proofs.SameLemmas.{same_type_is}
use Rattle.ui_infer.specs.Shape.{fill, filled, shape, same_shape}

-- ---- as many ids as parts, each the same
parts-replicate : (table : Table) (z : TypeId) (ids : List TypeId)
    → parts table (replicate (length ids) z) ≡ fill (tree table z) (parts table ids)
parts-replicate table z [] = refl
parts-replicate table z (i ∷ ids) = ap (λ (ts : Tys). types (tree table z) ts)
    (parts-replicate table z ids)

AreIds-replicate : (table : Table) (z : TypeId) (n : ℕ) → IsId table z
    → AreIds table (replicate n z)
AreIds-replicate table z zero h = All-nil (IsId table)
AreIds-replicate table z (suc n) h = All-cons (IsId table) z (replicate n z) h
    (AreIds-replicate table z n h)

length-replicated : (z : TypeId) (n : ℕ) → length (replicate n z) ≡ n
length-replicated z zero = refl
length-replicated z (suc n) = ap (λ (k : ℕ). suc k) (length-replicated z n)

length-fill : (table : Table) (z : Ty) (ids was : List TypeId) → parts table ids
    ≡ fill z (parts table was) → length ids ≡ length was
length-fill table z [] [] e = refl
length-fill table z [] (t ∷ ts) e = absurd cc
length-fill table z (i ∷ ids) [] e = absurd cc
length-fill table z (i ∷ ids) (t ∷ ts) e =
    let f : parts table ids ≡ fill z (parts table ts) = cc in
    ap (λ (n : ℕ). suc n) (length-fill table z ids ts f)

-- the parts of two lists
split_fill : (table : Table) (z : Ty) (xs ys ids : List TypeId) → parts table ids
    ≡ fill z (parts table (xs ++ ys))
    → (parts table (take (length xs) ids) ≡ fill z (parts table xs))
    × (parts table (drop (length xs) ids) ≡ fill z (parts table ys))
split_fill table z [] ys ids e = (refl, e)
split_fill table z (x ∷ xs) ys [] e = absurd cc
split_fill table z (x ∷ xs) ys (i ∷ ids) e =
    let f : parts table ids ≡ fill z (parts table (xs ++ ys)) = cc in
    let g : tree table i ≡ z = cc in
    let h = split_fill table z xs ys ids f in
    (λ j. types (g j) (h.0 j), h.1)

module _ {P L : Type 0} (label : P → L) (type_of : P → TypeId) (with_type : P → TypeId → P)
    (typed : (p : P) (t : TypeId) → type_of (with_type p t) ≡ t)
    (labelled : (p : P) (t : TypeId) → label (with_type p t) ≡ label p) where
  labels-with : (ps : List P) (ids : List TypeId) → map label (with_types with_type ps ids)
      ≡ map label ps
  labels-with [] ids = refl
  labels-with (p ∷ ps) [] = refl
  labels-with (p ∷ ps) (t ∷ ts) = λ i. labelled p t i ∷ labels-with ps ts i

  types-with : (ps : List P) (ids : List TypeId) → length ids ≡ length ps
      → map type_of (with_types with_type ps ids) ≡ ids
  types-with [] [] e = refl
  types-with [] (t ∷ ts) e = absurd (omega arith)
  types-with (p ∷ ps) [] e = absurd (omega arith)
  types-with (p ∷ ps) (t ∷ ts) e = λ i. typed p t i ∷ types-with ps ts (omega arith) i

  parts-with : (table : Table) (ps : List P) (ids : List TypeId) → length ids ≡ length ps
      → parts_by type_of table (with_types with_type ps ids) ≡ parts table ids
  parts-with table ps ids e = sym (parts-map type_of table (with_types with_type ps ids))
      ∙ ap (λ (is : List TypeId). parts table is) (types-with ps ids e)

abbrev field_with : Field → TypeId → Field
field_with f t = record f { ty = t }

abbrev method_with : Method → TypeId → Method
method_with m t = record m { sig = t }

abbrev term_with : Term → TypeId → Term
term_with u t = record u { ty = t }

fields_types : (fs : List Field) (ids : List TypeId) → length ids ≡ length fs
    → map (λ (f : Field). f.ty) (with_types field_with fs ids) ≡ ids
fields_types = types-with (λ (f : Field). f.name) (λ (f : Field). f.ty) field_with (λ f t. refl)
    (λ f t. refl)

methods_types : (ms : List Method) (ids : List TypeId) → length ids ≡ length ms
    → map (λ (m : Method). m.sig) (with_types method_with ms ids) ≡ ids
methods_types = types-with (λ (m : Method). m.name) (λ (m : Method). m.sig) method_with
    (λ m t. refl) (λ m t. refl)

terms_types : (ts : List Term) (ids : List TypeId) → length ids ≡ length ts
    → map (λ (t : Term). t.ty) (with_types term_with ts ids) ≡ ids
terms_types = types-with (λ (t : Term). t.tilde) (λ (t : Term). t.ty) term_with (λ u t. refl)
    (λ u t. refl)

first_length : (xs ys ids : List TypeId) → length ids ≡ length (xs ++ ys)
    → length (take (length xs) ids) ≡ length xs
first_length xs ys ids e = omega (arith, length-take (length xs) ids, length-append xs ys)

-- a node with as many other ids has those
pub ids_of-node_with : (node : TypeNode) (ids : List TypeId) → length ids ≡ length (ids_of node)
    → ids_of (node_with node ids) ≡ ids
ids_of-node_with (Basic b) [] e = refl
ids_of-node_with (Basic b) (i ∷ ids) e = absurd (omega arith)
ids_of-node_with (Named n args) ids e = refl
ids_of-node_with (Pointer t) [] e = absurd (omega arith)
ids_of-node_with (Pointer t) (i ∷ []) e = refl
ids_of-node_with (Pointer t) (i ∷ j ∷ ids) e = absurd (omega arith)
ids_of-node_with (Slice t) [] e = absurd (omega arith)
ids_of-node_with (Slice t) (i ∷ []) e = refl
ids_of-node_with (Slice t) (i ∷ j ∷ ids) e = absurd (omega arith)
ids_of-node_with (Array len t) [] e = absurd (omega arith)
ids_of-node_with (Array len t) (i ∷ []) e = refl
ids_of-node_with (Array len t) (i ∷ j ∷ ids) e = absurd (omega arith)
ids_of-node_with (Map k t) [] e = absurd (omega arith)
ids_of-node_with (Map k t) (i ∷ []) e = absurd (omega arith)
ids_of-node_with (Map k t) (i ∷ j ∷ []) e = refl
ids_of-node_with (Map k t) (i ∷ j ∷ l ∷ ids) e = absurd (omega arith)
ids_of-node_with (Func ps rs) ids e = take-append-drop (length ps) ids
ids_of-node_with (Struct fs) ids e = fields_types fs ids (e ∙ length-map fs (λ (f : Field). f.ty))
ids_of-node_with (Iface ms c us) ids e =
    let sigs : List TypeId = map (λ (m : Method). m.sig) ms in
    let n : length sigs ≡ length ms = length-map ms (λ (m : Method). m.sig) in
    let first : length (take (length ms) ids)
    ≡ length ms = rw (← n) (first_length sigs us ids e) in
    ap (λ (is : List TypeId). is ++ drop (length ms) ids)
    (methods_types ms (take (length ms) ids) first) ∙ take-append-drop (length ms) ids
ids_of-node_with (Union ts) ids e = terms_types ts ids (e ∙ length-map ts (λ (t : Term). t.ty))
ids_of-node_with (Param k) [] e = refl
ids_of-node_with (Param k) (i ∷ ids) e = absurd (omega arith)

-- with one type in the place of each part it shows the filled tree
shown-filled : (table : Table) (z : Ty) (node : TypeNode) (ids : List TypeId) → parts table ids
    ≡ fill z (parts table (ids_of node))
    → shown table (node_with node ids) ≡ filled z (shown table node)
shown-filled table z (Basic b) ids e = refl
shown-filled table z (Named n ts) ids e = ap (λ (us : Tys). named n us) e
shown-filled table z (Pointer t) [] e = absurd cc
shown-filled table z (Pointer t) (i ∷ ids) e = let f : tree table i ≡ z = cc in ap pointer f
shown-filled table z (Slice t) [] e = absurd cc
shown-filled table z (Slice t) (i ∷ ids) e = let f : tree table i ≡ z = cc in ap slice f
shown-filled table z (Array len t) [] e = absurd cc
shown-filled table z (Array len t) (i ∷ ids) e = let f : tree table i
    ≡ z = cc in ap (λ (u : Ty). array len u) f
shown-filled table z (Map k t) [] e = absurd cc
shown-filled table z (Map k t) (i ∷ []) e = absurd cc
shown-filled table z (Map k t) (i ∷ j ∷ ids) e =
    let f : tree table i ≡ z = cc in
    let g : tree table j ≡ z = cc in
    λ a. map_of (f a) (g a)
shown-filled table z (Func ps rs) ids e = let h = split_fill table z ps rs ids e in λ a. func
    (h.0 a) (h.1 a)
shown-filled table z (Struct fs) ids e =
    let n : length ids ≡ length fs = length-fill table z ids (map (λ (f : Field). f.ty) fs) e
    ∙ length-map fs (λ (f : Field). f.ty) in
    let names : map (λ (f : Field). f.name) (with_types field_with fs ids)
    ≡ map (λ (f : Field). f.name) fs =
    labels-with (λ (f : Field). f.name) (λ (f : Field). f.ty) field_with (λ f t. refl)
    (λ f t. refl) fs ids in
    let made : parts_by (λ (f : Field). f.ty) table (with_types field_with fs ids)
    ≡ parts table ids =
    parts-with (λ (f : Field). f.name) (λ (f : Field). f.ty) field_with (λ f t. refl) (λ f t. refl)
    table fs ids n in
    let all = made ∙ e ∙ ap (fill z) (parts-map (λ (f : Field). f.ty) table fs) in
    λ a. struct (names a) (all a)
shown-filled table z (Iface ms c us) ids e =
    let sigs : List TypeId = map (λ (m : Method). m.sig) ms in
    let l : length sigs ≡ length ms = length-map ms (λ (m : Method). m.sig) in
    let h = rw l at (split_fill table z sigs us ids e) in
    let n : length (take (length ms) ids) ≡ length ms = length-fill table z (take (length ms) ids)
    sigs h.0 ∙ l in
    let names : map (λ (m : Method). m.name) (with_types method_with ms (take (length ms) ids))
    ≡ map (λ (m : Method). m.name) ms =
    labels-with (λ (m : Method). m.name) (λ (m : Method). m.sig) method_with (λ m t. refl)
    (λ m t. refl) ms (take (length ms) ids) in
    let made : parts_by (λ (m : Method). m.sig) table
    (with_types method_with ms (take (length ms) ids)) ≡ parts table (take (length ms) ids) =
    parts-with (λ (m : Method). m.name) (λ (m : Method). m.sig) method_with (λ m t. refl)
    (λ m t. refl) table ms (take (length ms) ids) n in
    let all = made ∙ h.0 ∙ ap (fill z) (parts-map (λ (m : Method). m.sig) table ms) in
    λ a. iface (names a) (all a) c (h.1 a)
shown-filled table z (Union ts) ids e =
    let n : length ids ≡ length ts = length-fill table z ids (map (λ (t : Term). t.ty) ts) e
    ∙ length-map ts (λ (t : Term). t.ty) in
    let tildes : map (λ (t : Term). t.tilde) (with_types term_with ts ids)
    ≡ map (λ (t : Term). t.tilde) ts =
    labels-with (λ (t : Term). t.tilde) (λ (t : Term). t.ty) term_with (λ u t. refl) (λ u t. refl)
    ts ids in
    let made : parts_by (λ (t : Term). t.ty) table (with_types term_with ts ids)
    ≡ parts table ids =
    parts-with (λ (t : Term). t.tilde) (λ (t : Term). t.ty) term_with (λ u t. refl) (λ u t. refl)
    table ts ids n in
    let all = made ∙ e ∙ ap (fill z) (parts-map (λ (t : Term). t.ty) table ts) in
    λ a. union (tildes a) (all a)
shown-filled table z (Param k) ids e = refl

-- the node with one id in each part's place
pub record IsHollow (table : Table) (t : Ty) (z : TypeId) (node : TypeNode) : Type 0 where
  pub valid : IsNode table node
  pub value : shown table node ≡ filled (tree table z) t

pub hollow_node : (table : Table) (t : Ty) (z : TypeId) (node : TypeNode) (ids : List TypeId)
    → shown table node ≡ t → IsId table z → ids ≡ replicate (length (ids_of node)) z
    → IsHollow table t z (node_with node ids)
hollow_node table t z node ids is h e =
    let n : length ids ≡ length (ids_of node) = ap length e
    ∙ length-replicated z (length (ids_of node)) in
    let p : parts table ids ≡ fill (tree table z) (parts table (ids_of node)) = ap
    (λ (xs : List TypeId). parts table xs) e ∙ parts-replicate table z (ids_of node) in
    record {
      valid = IsNode-ids_of table (node_with node ids)
          (transport (AreIds table) (sym (ids_of-node_with node ids n ∙ e))
          (AreIds-replicate table z (length (ids_of node)) h));
      value = shown-filled table (tree table z) node ids p ∙ ap (filled (tree table z)) is;
    }

-- ---- the same in each part's place, whatever it is
fill-fill : (z w : Ty) (ts : Tys) → fill w (fill z ts) ≡ fill w ts
fill-fill z w no_types = refl
fill-fill z w (types t ts) = ap (λ (us : Tys). types w us) (fill-fill z w ts)

filled-filled : (z w : Ty) (t : Ty) → filled w (filled z t) ≡ filled w t
filled-filled z w (basic b) = refl
filled-filled z w (named n ts) = ap (λ (us : Tys). named n us) (fill-fill z w ts)
filled-filled z w (pointer t) = refl
filled-filled z w (slice t) = refl
filled-filled z w (array len t) = refl
filled-filled z w (map_of k t) = refl
filled-filled z w (func ps rs) = λ i. func (fill-fill z w ps i) (fill-fill z w rs i)
filled-filled z w (struct ns ts) = ap (λ (us : Tys). struct ns us) (fill-fill z w ts)
filled-filled z w (iface ns ts c us) = λ i. iface ns (fill-fill z w ts i) c (fill-fill z w us i)
filled-filled z w (union ms ts) = ap (λ (us : Tys). union ms us) (fill-fill z w ts)
filled-filled z w (param k) = refl

refilled : (z w : Ty) (t u : Ty) → filled z t ≡ filled z u → filled w t ≡ filled w u
refilled z w t u e = sym (filled-filled z w t) ∙ ap (filled w) e ∙ filled-filled z w u

pub same_shape_is : (table : Table) (z : TypeId) (t u : Ty) (a b : TypeNode) (r : Bool)
    → IsExact table → IsHollow table t z a → IsHollow table u z b → Decides r (a ≡ b) → r
    ≡ same_shape t u
unfolding same_shape
same_shape_is table z t u a b r ex p q d =
    same_type_is r (shape t) (shape u) (
      (λ is. refilled (tree table z) (param 0) t u
          (sym p.value ∙ ap (shown table) (d.0 (search (rules, is))) ∙ q.value)),
      (λ e. let same : a ≡ b = same_node table ex a b p.valid q.valid
          (p.value ∙ refilled (param 0) (tree table z) t u e ∙ sym q.value) in search
          (rules, d.1 same)),
    )

-- ---- what a call answers that makes the node
pub hollow_valid : {E : Type 0} (table : Table) (t : Ty) (z : TypeId) (node : TypeNode)
    (r : Result TypeNode E) → IsHollow table t z node → IfOk r (λ n. n ≡ node)
    → IfOk r (IsNode table)
hollow_valid table t z node (Ok n) h e = transport (IsNode table) (sym e) h.valid
hollow_valid table t z node (Err x) h e = tt

pub hollow_value : {E : Type 0} (table : Table) (t : Ty) (z : TypeId) (node : TypeNode)
    (r : Result TypeNode E) → IsHollow table t z node → IfOk r (λ n. n ≡ node)
    → IfOk r (λ n. shown table n ≡ filled (tree table z) t)
hollow_value table t z node (Ok n) h e = ap (shown table) e ∙ h.value
hollow_value table t z node (Err x) h e = tt
