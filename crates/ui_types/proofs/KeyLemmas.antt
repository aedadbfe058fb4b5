-- Nodes as keys: the derived test is equality, so a search by it finds the node itself.
use Rattle.std.proofs.Common.{◌≡◌, ℕ, suc, Bool, true, false, List, [], ◌∷◌, ◌++◌, length, get_or, Decides, cond, nat_lt, ◌≤◌, tests, arith, refl, sym, ap, ◌∙◌, rules, true≢false, ◌<◌, Option, Some, None}
use Rattle.std.specs.Prelude.{IfSome, IfNone, position, map}
use Rattle.std.specs.Cmp.Lexicographic.{pointwise}
use Rattle.std.specs.List.{position_or_len}
use Rattle.std.proofs.lemmas.List.{get_or-map, length-map}
use Rattle.std.proofs.lemmas.List.Quantifiers.{position-Some}
use Rattle.std.proofs.lemmas.List.Sums.{fails_before_first}
use Rattle.std.proofs.lemmas.Bool.Decides.{Decides-eqb}
use Rattle.std.proofs.lemmas.Slice.Eq.{slice_eq-Decides}
use Rattle.indexmap.specs.IndexMap.{insert_entry}
use Rattle.ui_types.specs.declared.id.TypeId.{TypeId}
use Rattle.ui_types.specs.declared.part.Field.{Field}
use Rattle.ui_types.specs.declared.part.Method.{Method}
use Rattle.ui_types.specs.declared.part.Term.{Term}
use Rattle.ui_types.specs.declared.node.TypeNode.{TypeNode}
use Rattle.ui_types.specs.declared.extent.Extent.{Extent}
use Rattle.ui_types.specs.contracts.id.TypeIdPartialEq.TheImpl.{ghosts as ids}
use Rattle.ui_types.specs.contracts.part.FieldPartialEq.TheImpl.{ghosts as fields}
use Rattle.ui_types.specs.contracts.part.MethodPartialEq.TheImpl.{ghosts as methods}
use Rattle.ui_types.specs.contracts.part.TermPartialEq.TheImpl.{ghosts as terms}
use Rattle.ui_types.specs.contracts.node.TypeNodePartialEq.TheImpl.{ghosts as nodes}
use Rattle.ui_types.specs.Entries.{Entry, HasNode, IsFresh}

Decides-id : (a b : TypeId) → Decides (ids.eq a b) (a ≡ b)
Decides-id a b = search (rules, Decides-eqb)

Decides-ids : (xs ys : List TypeId) → Decides (pointwise ids.eq xs ys) (xs ≡ ys)
Decides-ids xs ys = slice_eq-Decides Decides-id xs ys _ refl

Decides-field : (a b : Field) → Decides (fields.eq a b) (a ≡ b)
Decides-field a b = search rules

Decides-fields : (xs ys : List Field) → Decides (pointwise fields.eq xs ys) (xs ≡ ys)
Decides-fields xs ys = slice_eq-Decides Decides-field xs ys _ refl

Decides-method : (a b : Method) → Decides (methods.eq a b) (a ≡ b)
Decides-method a b = search rules

Decides-methods : (xs ys : List Method) → Decides (pointwise methods.eq xs ys) (xs ≡ ys)
Decides-methods xs ys = slice_eq-Decides Decides-method xs ys _ refl

Decides-term : (a b : Term) → Decides (terms.eq a b) (a ≡ b)
Decides-term a b = search rules

Decides-terms : (xs ys : List Term) → Decides (pointwise terms.eq xs ys) (xs ≡ ys)
Decides-terms xs ys = slice_eq-Decides Decides-term xs ys _ refl

pub Decides-node : (a b : TypeNode) → Decides (nodes.eq a b) (a ≡ b)
Decides-node a b = search (rules, Decides-ids, Decides-fields, Decides-methods, Decides-terms)

abbrev node_of : Entry → TypeNode
node_of e = e.0

abbrev entry_with : TypeNode → Entry
entry_with n = (n, record { size = 0; depth = 0 })

-- the node is at the place where the search finds it
pub found_at : (es : List Entry) (n : TypeNode) (r : Option ℕ) → r ≡ position (nodes.eq n) (map node_of es) → IfSome r (HasNode es n)
found_at es n None e = tt
found_at es n (Some k) e =
    let h = position-Some (nodes.eq n) (map node_of es) k n (sym e) in
    let len : length (map node_of es) ≡ length es = length-map es node_of in
    let within : k < length es = (let p = h.0 in omega arith) in
    record {
      within = within;
      same = λ d. sym (get_or-map node_of es k d n within) ∙ sym ((Decides-node n (get_or (map node_of es) k n)).0 h.1);
    }

le_none : (a b : ℕ) → cond (nat_lt a b) (Some a) None ≡ None → b ≤ a
le_none a b h = by_test (nat_lt a b) refl
  where
    by_test : (r : Bool) → nat_lt a b ≡ r → b ≤ a
    by_test true e = let f : Some a ≡ None = rw e at h in absurd cc
    by_test false e = search (rules, tests)

-- where the search finds nothing, the node is nowhere
pub fresh_at : (es : List Entry) (n : TypeNode) (r : Option ℕ) → r ≡ position (nodes.eq n) (map node_of es) → IfNone r (IsFresh es n)
fresh_at es n None e = record {
  none = λ k d within is.
      let len : length (map node_of es) ≡ length es = length-map es node_of in
      let past : length (map node_of es) ≤ position_or_len (nodes.eq n) (map node_of es) = le_none (position_or_len (nodes.eq n) (map node_of es)) (length (map node_of es)) (sym e) in
      let unequal : nodes.eq n (get_or (map node_of es) k n) ≡ false = fails_before_first (nodes.eq n) (map node_of es) k n (omega arith) in
      let same : n ≡ get_or (map node_of es) k n = sym is ∙ sym (get_or-map node_of es k d n within) in
      let equal : nodes.eq n (get_or (map node_of es) k n) ≡ true = (Decides-node n (get_or (map node_of es) k n)).1 same in
      absurd (true≢false (sym equal ∙ unequal));
}
fresh_at es n (Some k) e = tt

-- a node that is nowhere goes last
pub insert_entry-fresh : (es : List Entry) (n : TypeNode) (x : Extent) → IsFresh es n → insert_entry nodes.eq es n x ≡ es ++ (n, x) ∷ []
insert_entry-fresh [] n x fresh = refl
insert_entry-fresh (e ∷ es) n x fresh = by_test (nodes.eq n e.0) refl (insert_entry-fresh es n x (record { none = λ k d within is. fresh.none (suc k) d (omega arith) is }))
  where
    by_test : (r : Bool) → nodes.eq n e.0 ≡ r → insert_entry nodes.eq es n x ≡ es ++ (n, x) ∷ [] → insert_entry nodes.eq (e ∷ es) n x ≡ (e ∷ es) ++ (n, x) ∷ []
    by_test true t rest = absurd (fresh.none 0 e (omega arith) (sym ((Decides-node n e.0).0 t)))
    by_test false t rest = rw t (ap (λ (fs : List Entry). e ∷ fs) rest)
