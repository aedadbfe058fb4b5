-- Sums over the fronts of lists, and what a node's texts are.
use Rattle.std.proofs.Common.{◌≡◌, ℕ, ◌+◌, Bool, true, false, List, [], ◌∷◌, ◌++◌, refl, sym, ap, ◌∙◌, arith, rules, cond, Decides}
use Rattle.std.specs.Prelude.{map, Some}
use Rattle.std.proofs.lemmas.Bool.Decides.{Decides-eqb}
use Rattle.std.proofs.lemmas.List.Sums.{sum_by-cons, sum_by-append}
use Rattle.indexmap.specs.IndexMap.{get, IndexMap}
use Rattle.ui_types.specs.declared.id.TypeId.{TypeId}
use Rattle.ui_types.specs.declared.node.TypeNode.{TypeNode}
use Rattle.ui_types.specs.declared.node.TypeNode.TheVariants.{Basic, Named, Pointer, Slice, Array, Map, Func, Struct, Iface, Union, Param}
use Rattle.ui_types.specs.contracts.id.TypeIdPartialEq.TheImpl.{ghosts as ids}
use Rattle.ui_types.specs.Table.{Table, tree, parts, parts_by, shown}
use Rattle.ui_types.specs.Nodes.{ids_of}
use Rattle.ui_weight.specs.Weight.{texts, texts_all, counted}
use Rattle.ui_weight.specs.Parts.{own_texts, texts_by, IsMemo}

-- the texts of parts, by their ids
texts_parts : (table : Table) (ts : List TypeId) → texts_all (parts table ts) ≡ texts_by table ts
texts_parts table [] = refl
texts_parts table (t ∷ ts) =
    ap (λ n. texts (tree table t) + n) (texts_parts table ts)
    ∙ sym (sum_by-cons (λ u. texts (tree table u)) t ts)

texts_two : (table : Table) (ts us : List TypeId)
    → texts_all (parts table ts) + texts_all (parts table us) ≡ texts_by table (ts ++ us)
texts_two table ts us =
    (λ i. texts_parts table ts i + texts_parts table us i)
    ∙ sym (sum_by-append (λ u. texts (tree table u)) ts us)

module _ {P : Type 0} (type_of : P → TypeId) (table : Table) where
  texts_fields : (ps : List P) → texts_all (parts_by type_of table ps) ≡ texts_by table (map type_of ps)
  texts_fields [] = refl
  texts_fields (p ∷ ps) =
      ap (λ n. texts (tree table (type_of p)) + n) (texts_fields ps)
      ∙ sym (sum_by-cons (λ u. texts (tree table u)) (type_of p) (map type_of ps))

none : (n : ℕ) → n ≡ 0 + n
none n = omega arith

-- the texts of a node are its own and those of its parts
pub texts_shown : (table : Table) (node : TypeNode)
    → texts (shown table node) ≡ own_texts node + texts_by table (ids_of node)
texts_shown table (Basic b) = refl
texts_shown table (Named n args) = ap (λ k. own_texts (Named n args) + k) (texts_parts table args)
texts_shown table (Pointer t) = omega arith
texts_shown table (Slice t) = omega arith
texts_shown table (Array len t) = omega arith
texts_shown table (Map k t) = omega arith
texts_shown table (Func ps rs) = texts_two table ps rs ∙ none (texts_by table (ps ++ rs))
texts_shown table (Struct fs) =
    ap (λ k. own_texts (Struct fs) + k) (texts_fields (λ f. f.ty) table fs)
texts_shown table (Iface ms c us) =
    ap (λ k. own_texts (Iface ms c us) + k)
    ((λ i. texts_fields (λ m. m.sig) table ms i + texts_parts table us i)
    ∙ sym (sum_by-append (λ u. texts (tree table u)) (map (λ m. m.sig) ms) us))
texts_shown table (Union ts) =
    texts_fields (λ t. t.ty) table ts ∙ none (texts_by table (map (λ t. t.ty) ts))
texts_shown table (Param k) = refl

Decides-id : (a b : TypeId) → Decides (ids.eq a b) (a ≡ b)
Decides-id a b = search (rules, Decides-eqb)

-- one more type is counted
pub memo_more : {S : Type 0} (table : Table) (m n : IndexMap TypeId ℕ S) (k : TypeId) (v : ℕ)
    → IsMemo table m → v ≡ counted (texts (tree table k))
    → ((q : TypeId) → get ids.eq n q ≡ cond (ids.eq k q) (Some v) (get ids.eq m q))
    → IsMemo table n
memo_more table m n k v h made more q w e =
    by (ids.eq k q) refl (sym (more q) ∙ e)
  where
    by : (r : Bool) → ids.eq k q ≡ r → cond (ids.eq k q) (Some v) (get ids.eq m q) ≡ Some w
        → w ≡ counted (texts (tree table q))
    by true t e =
        let same : k ≡ q = (Decides-id k q).0 t in
        let f : Some v ≡ Some w = rw t at e in
        let g : v ≡ w = cc in
        sym g ∙ made ∙ ap (λ (x : TypeId). counted (texts (tree table x))) same
    by false t e = h q w (rw t at e)
