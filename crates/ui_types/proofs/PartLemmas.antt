-- Lists of parts that are given other types.
use Rattle.std.proofs.Common.{◌≡◌, ℕ, zero, suc, ◌+◌, ◌<◌, List, [], ◌∷◌, ◌++◌, length, get_or, take, drop, refl, sym, ◌∙◌, ap, add-one, arith}
use Rattle.std.specs.Prelude.{map}
use Rattle.std.proofs.Math.Seq.{take-append_seam, drop-append_seam}
use Rattle.std.proofs.lemmas.List.{length-map}
use Rattle.ui_types.specs.declared.id.TypeId.{TypeId}
use Rattle.ui_types.specs.declared.part.Field.{Field}
use Rattle.ui_types.specs.declared.part.Method.{Method}
use Rattle.ui_types.specs.declared.part.Term.{Term}
use Rattle.ui_types.specs.declared.node.TypeNode.{TypeNode}
use Rattle.ui_types.specs.declared.node.TypeNode.TheVariants.{Basic, Named, Pointer, Slice, Array, Map, Func, Struct, Iface, Union, Param}
use Rattle.ui_types.specs.Parts.{with_types}
use Rattle.ui_types.specs.Nodes.{ids_of, node_with}

with_types-take : {P : Type 0} (f : P → TypeId → P) (ps : List P) (ids : List TypeId) (i : ℕ) (d : P) (e : TypeId) → i < length ps → i < length ids
    → with_types f (take (suc i) ps) (take (suc i) ids) ≡ with_types f (take i ps) (take i ids) ++ f (get_or ps i d) (get_or ids i e) ∷ []
with_types-take f [] ids i d e h k = absurd (omega arith)
with_types-take f (p ∷ ps) [] i d e h k = absurd (omega arith)
with_types-take f (p ∷ ps) (t ∷ ts) zero d e h k = refl
with_types-take {P} f (p ∷ ps) (t ∷ ts) (suc i) d e h k = ap (λ (qs : List P). f p t ∷ qs) (with_types-take f ps ts i d e (omega arith) (omega arith))

-- one more part, as a loop reads it
pub with_types_step : {P : Type 0} (f : P → TypeId → P) (ps : List P) (ids : List TypeId) (i : ℕ) (p : P) (e : TypeId) → i < length ps → i < length ids → p ≡ get_or ps i p
    → with_types f (take (i + 1) ps) (take (i + 1) ids) ≡ with_types f (take i ps) (take i ids) ++ f p (get_or ids i e) ∷ []
with_types_step {P} f ps ids i p e h k is =
    rw add-one (with_types-take f ps ids i p e h k ∙ ap (λ (q : P). with_types f (take i ps) (take i ids) ++ f q (get_or ids i e) ∷ []) (sym is))

-- parts with their own types
pub with_types-same : {P : Type 0} (f : P → TypeId → P) (type_of : P → TypeId) → ((p : P) → f p (type_of p) ≡ p) → (ps : List P) → with_types f ps (map type_of ps) ≡ ps
with_types-same f type_of keeps [] = refl
with_types-same f type_of keeps (p ∷ ps) = λ i. keeps p i ∷ with_types-same f type_of keeps ps i

-- a node with its own ids
pub node_with-ids_of : (node : TypeNode) → node_with node (ids_of node) ≡ node
node_with-ids_of (Basic b) = refl
node_with-ids_of (Named n args) = refl
node_with-ids_of (Pointer t) = refl
node_with-ids_of (Slice t) = refl
node_with-ids_of (Array len t) = refl
node_with-ids_of (Map k t) = refl
node_with-ids_of (Func ps rs) = λ i. Func (take-append_seam ps rs i) (drop-append_seam ps rs i)
node_with-ids_of (Struct fs) = ap Struct (with_types-same (λ (f : Field) (t : TypeId). record f { ty = t }) (λ (f : Field). f.ty) (λ f. refl) fs)
node_with-ids_of (Iface ms c us) =
    let sigs : List TypeId = map (λ (m : Method). m.sig) ms in
    let n : length sigs ≡ length ms = length-map ms (λ (m : Method). m.sig) in
    let e : take (length ms) (sigs ++ us) ≡ sigs = rw (← n) (take-append_seam sigs us) in
    let f : drop (length ms) (sigs ++ us) ≡ us = rw (← n) (drop-append_seam sigs us) in
    let g : with_types (λ (m : Method) (t : TypeId). record m { sig = t }) ms sigs ≡ ms = with_types-same (λ (m : Method) (t : TypeId). record m { sig = t }) (λ (m : Method). m.sig) (λ m. refl) ms in
    λ i. Iface ((ap (with_types (λ (m : Method) (t : TypeId). record m { sig = t }) ms) e ∙ g) i) c (f i)
node_with-ids_of (Union ts) = ap Union (with_types-same (λ (u : Term) (t : TypeId). record u { ty = t }) (λ (u : Term). u.ty) (λ u. refl) ts)
node_with-ids_of (Param k) = refl

pub ruleset part_steps = (with_types_step, with_types-same, node_with-ids_of)
