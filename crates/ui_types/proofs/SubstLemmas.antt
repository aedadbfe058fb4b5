-- A node whose parts have been substituted.
use Rattle.std.proofs.Common.{◌≡◌, Bool, true, false, IsTrue, ℕ, suc, ◌+◌, ◌≤◌, List, [], ◌∷◌, ◌++◌, length, take, drop, refl, sym, ◌∙◌, ap, arith, subst as transport}
use Rattle.std.specs.Prelude.{map, Option, Some, None, IsSomeAnd}
use Rattle.std.specs.Option.{option_to_list}
use Rattle.std.proofs.lemmas.List.Elements.{All-push}
use Rattle.std.proofs.lemmas.List.{length-map, length-append, length-take, take-append-drop}
use Rattle.ui_types.specs.declared.id.TypeId.{TypeId}
use Rattle.ui_types.specs.declared.part.Field.{Field}
use Rattle.ui_types.specs.declared.part.Method.{Method}
use Rattle.ui_types.specs.declared.part.Term.{Term}
use Rattle.ui_types.specs.declared.node.TypeNode.{TypeNode}
use Rattle.ui_types.specs.declared.node.TypeNode.TheVariants.{Basic, Named, Pointer, Slice, Array, Map, Func, Struct, Iface, Union, Param}
use Rattle.ui_types.specs.Ty.{Ty, Tys, snoc, named, pointer, slice, array, map_of, func, struct, iface, union, param, types, size, sizes, depth, depths, subst, substs}
use Rattle.ui_types.specs.Table.{Table, IsId, AreIds, IsNode, Grows, Denotes, tree, parts, parts_by, shown, DenoteAll, IsWithinLimits, max_size, max_depth, counted_size, counted_depth}
use Rattle.ui_types.specs.Parts.{with_types}
use Rattle.ui_types.specs.Nodes.{ids_of, node_with}
use Rattle.ui_types.specs.declared.extent.Extent.{Extent}
use Rattle.ui_types.specs.declared.made.Made.{Made}
use Rattle.ui_types.specs.declared.made.MadeParts.{MadeParts}
use Rattle.ui_types.specs.Entries.{IsExtentOf}
use Rattle.ui_types.specs.Made.{IsMade, AreMade, AreWithinLimits}
use Rattle.ui_types.specs.Trees.{sizes-snoc, depths-snoc, parts-push, parts-grows, AreIds-grows}
use Rattle.ui_types.proofs.NodeLemmas.{parts_of, parts-map, IsNode-ids_of, parts_of-shown, parts_of-subst, size-parts_of, depth-parts_of}

-- as many ids as parts
length-parts : (table old : Table) (args : List Ty) (ids was : List TypeId) → parts table ids ≡ substs args (parts old was) → length ids ≡ length was
length-parts table old args [] [] e = refl
length-parts table old args [] (t ∷ ts) e = absurd cc
length-parts table old args (i ∷ ids) [] e = absurd cc
length-parts table old args (i ∷ ids) (t ∷ ts) e =
    let f : parts table ids ≡ substs args (parts old ts) = cc in
    ap (λ (n : ℕ). suc n) (length-parts table old args ids ts f)

-- the parts of two lists
split_parts : (table old : Table) (args : List Ty) (xs ys ids : List TypeId) → parts table ids ≡ substs args (parts old (xs ++ ys))
    → (parts table (take (length xs) ids) ≡ substs args (parts old xs)) × (parts table (drop (length xs) ids) ≡ substs args (parts old ys))
split_parts table old args [] ys ids e = (refl, e)
split_parts table old args (x ∷ xs) ys [] e = absurd cc
split_parts table old args (x ∷ xs) ys (i ∷ ids) e =
    let f : parts table ids ≡ substs args (parts old (xs ++ ys)) = cc in
    let g : tree table i ≡ subst args (tree old x) = cc in
    let h = split_parts table old args xs ys ids f in
    (λ j. types (g j) (h.0 j), h.1)

module _ {P L : Type 0} (label : P → L) (type_of : P → TypeId) (with_type : P → TypeId → P) (typed : (p : P) (t : TypeId) → type_of (with_type p t) ≡ t) (labelled : (p : P) (t : TypeId) → label (with_type p t) ≡ label p) where
  labels-with : (ps : List P) (ids : List TypeId) → map label (with_types with_type ps ids) ≡ map label ps
  labels-with [] ids = refl
  labels-with (p ∷ ps) [] = refl
  labels-with (p ∷ ps) (t ∷ ts) = λ i. labelled p t i ∷ labels-with ps ts i

  types-with : (ps : List P) (ids : List TypeId) → length ids ≡ length ps → map type_of (with_types with_type ps ids) ≡ ids
  types-with [] [] e = refl
  types-with [] (t ∷ ts) e = absurd (omega arith)
  types-with (p ∷ ps) [] e = absurd (omega arith)
  types-with (p ∷ ps) (t ∷ ts) e = λ i. typed p t i ∷ types-with ps ts (omega arith) i

  parts-with : (table : Table) (ps : List P) (ids : List TypeId) → length ids ≡ length ps → parts_by type_of table (with_types with_type ps ids) ≡ parts table ids
  parts-with table ps ids e = sym (parts-map type_of table (with_types with_type ps ids)) ∙ ap (λ (is : List TypeId). parts table is) (types-with ps ids e)

abbrev field_with : Field → TypeId → Field
field_with f t = record f { ty = t }

abbrev method_with : Method → TypeId → Method
method_with m t = record m { sig = t }

abbrev term_with : Term → TypeId → Term
term_with u t = record u { ty = t }

fields_types : (fs : List Field) (ids : List TypeId) → length ids ≡ length fs → map (λ (f : Field). f.ty) (with_types field_with fs ids) ≡ ids
fields_types = types-with (λ (f : Field). f.name) (λ (f : Field). f.ty) field_with (λ f t. refl) (λ f t. refl)

methods_types : (ms : List Method) (ids : List TypeId) → length ids ≡ length ms → map (λ (m : Method). m.sig) (with_types method_with ms ids) ≡ ids
methods_types = types-with (λ (m : Method). m.name) (λ (m : Method). m.sig) method_with (λ m t. refl) (λ m t. refl)

terms_types : (ts : List Term) (ids : List TypeId) → length ids ≡ length ts → map (λ (t : Term). t.ty) (with_types term_with ts ids) ≡ ids
terms_types = types-with (λ (t : Term). t.tilde) (λ (t : Term). t.ty) term_with (λ u t. refl) (λ u t. refl)

first_length : (xs ys ids : List TypeId) → length ids ≡ length (xs ++ ys) → length (take (length xs) ids) ≡ length xs
first_length xs ys ids e = omega (arith, length-take (length xs) ids, length-append xs ys)

-- a node with as many other ids has those
ids_of-node_with : (node : TypeNode) (ids : List TypeId) → length ids ≡ length (ids_of node) → ids_of (node_with node ids) ≡ ids
ids_of-node_with (Basic b) [] e = refl
ids_of-node_with (Basic b) (i ∷ ids) e = absurd (omega arith)
ids_of-node_with (Named n args) ids e = refl
ids_of-node_with (Pointer t) [] e = absurd (omega arith)
ids_of-node_with (Pointer t) (i ∷ []) e = refl
ids_of-node_with (Pointer t) (i ∷ j ∷ ids) e = absurd (omega arith)
ids_of-node_with (Slice t) [] e = absurd (omega arith)
ids_of-node_with (Slice t) (i ∷ []) e = refl
ids_of-node_with (Slice t) (i ∷ j ∷ ids) e = absurd (omega arith)
ids_of-node_with (Array len t) [] e = absurd (omega arith)
ids_of-node_with (Array len t) (i ∷ []) e = refl
ids_of-node_with (Array len t) (i ∷ j ∷ ids) e = absurd (omega arith)
ids_of-node_with (Map k t) [] e = absurd (omega arith)
ids_of-node_with (Map k t) (i ∷ []) e = absurd (omega arith)
ids_of-node_with (Map k t) (i ∷ j ∷ []) e = refl
ids_of-node_with (Map k t) (i ∷ j ∷ l ∷ ids) e = absurd (omega arith)
ids_of-node_with (Func ps rs) ids e = take-append-drop (length ps) ids
ids_of-node_with (Struct fs) ids e = fields_types fs ids (e ∙ length-map fs (λ (f : Field). f.ty))
ids_of-node_with (Iface ms c us) ids e =
    let sigs : List TypeId = map (λ (m : Method). m.sig) ms in
    let n : length sigs ≡ length ms = length-map ms (λ (m : Method). m.sig) in
    let first : length (take (length ms) ids) ≡ length ms = rw (← n) (first_length sigs us ids e) in
    ap (λ (is : List TypeId). is ++ drop (length ms) ids) (methods_types ms (take (length ms) ids) first) ∙ take-append-drop (length ms) ids
ids_of-node_with (Union ts) ids e = terms_types ts ids (e ∙ length-map ts (λ (t : Term). t.ty))
ids_of-node_with (Param k) [] e = refl
ids_of-node_with (Param k) (i ∷ ids) e = absurd (omega arith)

-- with the ids of its substituted parts it shows the substituted tree
shown-node_with : (new old : Table) (args : List Ty) (node : TypeNode) (ids : List TypeId) → ((k : ℕ) → node ≡ Param k → ⊥) → parts new ids ≡ substs args (parts old (ids_of node))
    → shown new (node_with node ids) ≡ subst args (shown old node)
shown-node_with new old args (Basic b) ids no_param e = refl
shown-node_with new old args (Named n ts) ids no_param e = ap (λ (us : Tys). named n us) e
shown-node_with new old args (Pointer t) [] no_param e = absurd cc
shown-node_with new old args (Pointer t) (i ∷ ids) no_param e = let f : tree new i ≡ subst args (tree old t) = cc in ap pointer f
shown-node_with new old args (Slice t) [] no_param e = absurd cc
shown-node_with new old args (Slice t) (i ∷ ids) no_param e = let f : tree new i ≡ subst args (tree old t) = cc in ap slice f
shown-node_with new old args (Array len t) [] no_param e = absurd cc
shown-node_with new old args (Array len t) (i ∷ ids) no_param e = let f : tree new i ≡ subst args (tree old t) = cc in ap (λ (u : Ty). array len u) f
shown-node_with new old args (Map k t) [] no_param e = absurd cc
shown-node_with new old args (Map k t) (i ∷ []) no_param e = absurd cc
shown-node_with new old args (Map k t) (i ∷ j ∷ ids) no_param e =
    let f : tree new i ≡ subst args (tree old k) = cc in
    let g : tree new j ≡ subst args (tree old t) = cc in
    λ a. map_of (f a) (g a)
shown-node_with new old args (Func ps rs) ids no_param e = let h = split_parts new old args ps rs ids e in λ a. func (h.0 a) (h.1 a)
shown-node_with new old args (Struct fs) ids no_param e =
    let n : length ids ≡ length fs = length-parts new old args ids (map (λ (f : Field). f.ty) fs) e ∙ length-map fs (λ (f : Field). f.ty) in
    let names : map (λ (f : Field). f.name) (with_types field_with fs ids) ≡ map (λ (f : Field). f.name) fs =
    labels-with (λ (f : Field). f.name) (λ (f : Field). f.ty) field_with (λ f t. refl) (λ f t. refl) fs ids in
    let made : parts_by (λ (f : Field). f.ty) new (with_types field_with fs ids) ≡ parts new ids =
    parts-with (λ (f : Field). f.name) (λ (f : Field). f.ty) field_with (λ f t. refl) (λ f t. refl) new fs ids n in
    let all = made ∙ e ∙ ap (substs args) (parts-map (λ (f : Field). f.ty) old fs) in
    λ a. struct (names a) (all a)
shown-node_with new old args (Iface ms c us) ids no_param e =
    let sigs : List TypeId = map (λ (m : Method). m.sig) ms in
    let l : length sigs ≡ length ms = length-map ms (λ (m : Method). m.sig) in
    let h = rw l at (split_parts new old args sigs us ids e) in
    let n : length (take (length ms) ids) ≡ length ms = length-parts new old args (take (length ms) ids) sigs h.0 ∙ l in
    let names : map (λ (m : Method). m.name) (with_types method_with ms (take (length ms) ids)) ≡ map (λ (m : Method). m.name) ms =
    labels-with (λ (m : Method). m.name) (λ (m : Method). m.sig) method_with (λ m t. refl) (λ m t. refl) ms (take (length ms) ids) in
    let made : parts_by (λ (m : Method). m.sig) new (with_types method_with ms (take (length ms) ids)) ≡ parts new (take (length ms) ids) =
    parts-with (λ (m : Method). m.name) (λ (m : Method). m.sig) method_with (λ m t. refl) (λ m t. refl) new ms (take (length ms) ids) n in
    let all = made ∙ h.0 ∙ ap (substs args) (parts-map (λ (m : Method). m.sig) old ms) in
    λ a. iface (names a) (all a) c (h.1 a)
shown-node_with new old args (Union ts) ids no_param e =
    let n : length ids ≡ length ts = length-parts new old args ids (map (λ (t : Term). t.ty) ts) e ∙ length-map ts (λ (t : Term). t.ty) in
    let tildes : map (λ (t : Term). t.tilde) (with_types term_with ts ids) ≡ map (λ (t : Term). t.tilde) ts =
    labels-with (λ (t : Term). t.tilde) (λ (t : Term). t.ty) term_with (λ u t. refl) (λ u t. refl) ts ids in
    let made : parts_by (λ (t : Term). t.ty) new (with_types term_with ts ids) ≡ parts new ids =
    parts-with (λ (t : Term). t.tilde) (λ (t : Term). t.ty) term_with (λ u t. refl) (λ u t. refl) new ts ids n in
    let all = made ∙ e ∙ ap (substs args) (parts-map (λ (t : Term). t.ty) old ts) in
    λ a. union (tildes a) (all a)
shown-node_with new old args (Param k) ids no_param e = absurd (no_param k refl)

-- what rebuilding a node asks for and gives
pub record IsRebuilt (new : Table) (t : Ty) (node : TypeNode) (ids : List TypeId) : Type 0 where
  pub count : length ids ≡ length (ids_of node)
  pub valid : IsNode new (node_with node ids)
  pub value : shown new (node_with node ids) ≡ t

pub rebuilt_node : (new old : Table) (args : List Ty) (node : TypeNode) (ids : List TypeId) → ((k : ℕ) → node ≡ Param k → ⊥) → DenoteAll new (substs args (parts old (ids_of node))) ids
    → IsRebuilt new (subst args (shown old node)) node ids
rebuilt_node new old args node ids no_param d =
    let n : length ids ≡ length (ids_of node) = length-parts new old args ids (ids_of node) d.value in
    record {
      count = n;
      valid = IsNode-ids_of new (node_with node ids) (transport (AreIds new) (sym (ids_of-node_with node ids n)) d.valid);
      value = shown-node_with new old args node ids no_param d.value;
    }

-- ---- a node that is no parameter, and its substituted parts
no_param-shown : (table : Table) (node : TypeNode) → ((k : ℕ) → node ≡ Param k → ⊥) → (k : ℕ) → shown table node ≡ param k → ⊥
no_param-shown table (Basic b) no_param k e = cc
no_param-shown table (Named n args) no_param k e = cc
no_param-shown table (Pointer t) no_param k e = cc
no_param-shown table (Slice t) no_param k e = cc
no_param-shown table (Array len t) no_param k e = cc
no_param-shown table (Map j t) no_param k e = cc
no_param-shown table (Func ps rs) no_param k e = cc
no_param-shown table (Struct fs) no_param k e = cc
no_param-shown table (Iface ms c us) no_param k e = cc
no_param-shown table (Union ts) no_param k e = cc
no_param-shown table (Param j) no_param k e = no_param j refl

module _ (old : Table) (args : List Ty) (node : TypeNode) (no_param : (k : ℕ) → node ≡ Param k → ⊥) where
  abbrev done : Tys
  done = substs args (parts old (ids_of node))

  abbrev whole : Ty
  whole = subst args (shown old node)

  parts_of-whole : parts_of whole ≡ done
  parts_of-whole = parts_of-subst args (shown old node) (no_param-shown old node no_param) ∙ ap (substs args) (parts_of-shown old node)

  pub size-whole : size whole ≡ 1 + sizes done
  size-whole = size-parts_of whole ∙ ap (λ (ts : Tys). 1 + sizes ts) parts_of-whole

  pub depth-whole : depth whole ≡ 1 + depths done
  depth-whole = depth-parts_of whole ∙ ap (λ (ts : Tys). 1 + depths ts) parts_of-whole

-- What is known of a type once its parts are done: its extent, whether it is within the limits, and how it is rebuilt.
pub record IsWhole (new : Table) (t : Ty) (node : TypeNode) (ids : List TypeId) (e : Extent) : Type 0 where
  pub extent : IsExtentOf t e
  pub within : IsWithinLimits t → (e.size ≤ max_size) × (e.depth ≤ max_depth)
  pub limits : (e.size ≤ max_size) × (e.depth ≤ max_depth) → IsWithinLimits t
  pub rebuilt : IsWithinLimits t → IsRebuilt new t node ids

module _ (old new : Table) (args : List Ty) (node : TypeNode) (no_param : (k : ℕ) → node ≡ Param k → ⊥) (made : MadeParts) (e : Extent) where
  whole_shown : AreMade new (done old args node no_param) made → e.size ≡ counted_size (made.extent.size + 1) → e.depth ≡ counted_depth (made.extent.depth + 1) → IsWhole new (whole old args node no_param) node made.ids.items e
  whole_shown h s d =
      let p = size-whole old args node no_param in
      let q = depth-whole old args node no_param in
      let hs = h.size_is in
      let hd = h.depth_is in
      record {
        extent = record { size_is = omega arith; depth_is = omega arith };
        within = λ l. let ls = l.small in let ld = l.shallow in (omega arith, omega arith);
        limits = λ b. let bs = b.0 in let bd = b.1 in record { small = omega arith; shallow = omega arith };
        rebuilt = λ l. rebuilt_node new old args node made.ids.items no_param (h.there (let ls = l.small in let ld = l.shallow in record { small = omega arith; shallow = omega arith }));
      }

  pub whole_made : (t : Ty) (ids : List TypeId) → shown old node ≡ t → ids ≡ ids_of node → AreMade new (substs args (parts old ids)) made → e.size ≡ counted_size (made.extent.size + 1) → e.depth ≡ counted_depth (made.extent.depth + 1)
      → IsWhole new (subst args t) node made.ids.items e
  whole_made t ids is are h s d =
      transport (λ (u : Ty). IsWhole new (subst args u) node made.ids.items e) is (whole_shown (transport (λ (is : List TypeId). AreMade new (substs args (parts old is)) made) are h) s d)

-- one more part is done
pub made_more : {mid new : Table} (done : Tys) (t : Ty) (m : Made) (ids : List TypeId) → Grows mid new → (AreWithinLimits done → DenoteAll mid done ids) → IsMade new t m → AreWithinLimits (snoc done t)
    → DenoteAll new (snoc done t) (ids ++ option_to_list m.id)
made_more {mid} {new} done t m ids g was is l = by_id m.id (is.there within)
  where
    within : IsWithinLimits t
    within = let s = l.small in let d = l.shallow in let p = sizes-snoc done t in let q = depths-snoc done t in record { small = omega arith; shallow = omega arith }

    before : DenoteAll mid done ids
    before = was (let s = l.small in let d = l.shallow in let p = sizes-snoc done t in let q = depths-snoc done t in record { small = omega arith; shallow = omega arith })

    by_id : (o : Option TypeId) → IsSomeAnd o (Denotes new t) → DenoteAll new (snoc done t) (ids ++ option_to_list o)
    by_id None h = absurd h
    by_id (Some id) h = record {
      valid = All-push (IsId new) ids id (AreIds-grows ids g before.valid) h.valid;
      value =
          let p : parts new ids ≡ done = parts-grows ids g before.valid ∙ before.value in
          parts-push new ids id ∙ (λ i. snoc (p i) (h.value i));
    }

-- what a test says
pub is_true : (r : Bool) (P : Type 0) → r ≡ true → (IsTrue r → P) → P
is_true true P e f = f refl
is_true false P e f = absurd cc

pub not_true : {A : Type 0} (r : Bool) (P : Type 0) → r ≡ false → (P → IsTrue r) → P → A
not_true true P e f p = absurd cc
not_true false P e f p = let h : false ≡ true = f p in absurd cc
