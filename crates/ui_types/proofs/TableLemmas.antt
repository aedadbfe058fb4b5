-- A table with a node more, and what it keeps of an id.
use Rattle.std.proofs.Common.{◌≡◌, ℕ, zero, suc, ◌+◌, ◌<◌, List, [], ◌∷◌, ◌++◌, ◌⊎◌, inl, inr, length, get_or, refl, sym, ◌∙◌, ap, subst as transport, arith, length-append, Some}
use Rattle.std.specs.Prelude.{slice_get}
use Rattle.std.proofs.lemmas.List.{get_or_append_left, get_or_push}
use Rattle.ui_types.specs.declared.id.TypeId.{TypeId}
use Rattle.ui_types.specs.declared.node.TypeNode.{TypeNode}
use Rattle.ui_types.specs.Ty.{Ty, param, size, depth}
use Rattle.ui_types.specs.Table.{Table, IsNode, tree, shown, Grows, Denotes, IsWithinLimits}
use Rattle.ui_types.specs.Entries.{Entry, more_trees, trees_of, at, IsEntry, IsTable, IsEntryOf, IsFresh, HasNode}
use Rattle.ui_types.specs.Trees.{Grows-push, tree-last, shown-grows}
use Rattle.ui_types.proofs.NodeLemmas.{IsExact, IsNode-below, below-IsNode, same_node}

more_trees-push : (table : Table) (es : List Entry) (e : Entry) → more_trees table (es ++ e ∷ []) ≡ more_trees table es ++ shown (more_trees table es) e.0 ∷ []
more_trees-push table [] e = refl
more_trees-push table (x ∷ es) e = more_trees-push (table ++ shown table x.0 ∷ []) es e

pub trees_of-push : (es : List Entry) (e : Entry) → trees_of (es ++ e ∷ []) ≡ trees_of es ++ shown (trees_of es) e.0 ∷ []
unfolding trees_of
trees_of-push es e = more_trees-push [] es e

pub exact_of : (es : List Entry) → IsTable es → IsExact (trees_of es)
unfolding tree
exact_of es h i j p q e =
    let n = h.count in
    let same : i.0 ≡ j.0 = h.exact i.0 j.0 (omega arith) (omega arith) e in
    ap (λ (k : ℕ). let t : TypeId = record { 0 = k } in t) same

-- an entry's node is of the table
node_of_table : (es : List Entry) (k : ℕ) (d : Entry) → IsTable es → k < length es → IsNode (trees_of es) (get_or es k d).0
node_of_table es k d h le =
    let n = h.count in
    IsNode-below (trees_of es) k (get_or es k d).0 (omega arith) (h.entry k d le).below

-- ---- what a table keeps of an id
pub record IsEntryAt (table : Table) (t : TypeId) (e : Entry) : Type 0 where
  pub valid : IsNode table e.0
  pub value : shown table e.0 ≡ tree table t
  pub size_is : e.1.size ≡ size (tree table t)
  pub depth_is : e.1.depth ≡ depth (tree table t)
  pub limits : IsWithinLimits (tree table t)

slice_get-default : (es : List Entry) (k : ℕ) (e : Entry) → slice_get es k ≡ Some e → (k < length es) × (get_or es k e ≡ e)
slice_get-default [] k e h = absurd cc
slice_get-default (x ∷ es) zero e h = (omega arith, cc)
slice_get-default (x ∷ es) (suc k) e h = let r = slice_get-default es k e h in (let p = r.0 in omega arith, r.1)

pub entry_at : (es : List Entry) (t : TypeId) (e : Entry) → IsTable es → slice_get es t.0 ≡ Some e → IsEntryAt (trees_of es) t e
unfolding tree
entry_at es t e h s =
    let r = slice_get-default es t.0 e s in
    let k = h.entry t.0 e r.0 in
    let here : IsEntry (trees_of es) t.0 e = transport (IsEntry (trees_of es) t.0) r.1 k in
    record {
      valid = transport (λ (x : Entry). IsNode (trees_of es) x.0) r.1 (node_of_table es t.0 e h r.0);
      value = sym here.unfolds;
      size_is = here.size_is;
      depth_is = here.depth_is;
      limits = here.limits;
    }

pub entry_in : (es : List Entry) (table : Table) (t : TypeId) (e : Entry) → trees_of es ≡ table → IsTable es → slice_get es t.0 ≡ Some e → IsEntryAt table t e
entry_in es table t e is h s = transport (λ (tb : Table). IsEntryAt tb t e) is (entry_at es t e h s)

-- ---- a table with no entry
pub trees_of-nil : trees_of [] ≡ []
unfolding trees_of
trees_of-nil = refl

pub IsTable-nil : IsTable []
unfolding trees_of
IsTable-nil = record {
  count = refl;
  entry = λ k d h. absurd (omega arith);
  exact = λ i j h. absurd (omega arith);
}

-- ---- a table with one more entry
last_or_below : (n k : ℕ) → k < n + 1 → (k < n) ⊎ (k ≡ n)
last_or_below zero zero h = inr refl
last_or_below zero (suc k) h = absurd (omega arith)
last_or_below (suc n) zero h = inl (omega arith)
last_or_below (suc n) (suc k) h = elim (last_or_below n k (omega arith)) [ inl p ↦ inl (omega arith) | inr q ↦ inr (omega arith) ]

module _ (es : List Entry) (e : Entry) (h : IsTable es) (is : IsEntryOf (trees_of es) e) (fresh : IsFresh es e.0) where
  abbrev old : Table
  old = trees_of es

  abbrev new : Table
  new = trees_of es ++ shown (trees_of es) e.0 ∷ []

  at-old : (k : ℕ) → k < length es → at new k ≡ at old k
  at-old k le = get_or_append_left old (shown old e.0 ∷ []) (param 0) k (let n = h.count in omega arith)

  at-new : at new (length es) ≡ shown old e.0
  at-new = get_or_push old (shown old e.0) (param 0) (length es) h.count

  grown : Grows old new
  grown = Grows-push old (shown old e.0)

  entry-old : (k : ℕ) (d : Entry) → k < length es → IsEntry new k (get_or es k d)
  entry-old k d le =
      let was = h.entry k d le in
      let same : at new k ≡ at old k = at-old k le in
      let kept : shown new (get_or es k d).0 ≡ shown old (get_or es k d).0 = shown-grows _ grown (node_of_table es k d h le) in
      record {
        below = was.below;
        unfolds = same ∙ was.unfolds ∙ sym kept;
        size_is = was.size_is ∙ ap size (sym same);
        depth_is = was.depth_is ∙ ap depth (sym same);
        limits = transport IsWithinLimits (sym same) was.limits;
      }

  entry-new : IsEntry new (length es) e
  entry-new = record {
    below = below-IsNode old (length es) e.0 (let n = h.count in omega arith) is.valid;
    unfolds = at-new ∙ sym (shown-grows e.0 grown is.valid);
    size_is = is.size_is ∙ ap size (sym at-new);
    depth_is = is.depth_is ∙ ap depth (sym at-new);
    limits = transport IsWithinLimits (sym at-new) is.limits;
  }

  no_twin : (k : ℕ) → k < length es → at old k ≡ shown old e.0 → ⊥
  no_twin k le same =
      let was = h.entry k e le in
      fresh.none k e le (same_node old (exact_of es h) _ _ (node_of_table es k e h le) is.valid (sym was.unfolds ∙ same))

  places : (k : ℕ) → k < length (es ++ e ∷ []) → (k < length es) ⊎ (k ≡ length es)
  places k le = let n : length (es ++ e ∷ []) ≡ length es + 1 = length-append es (e ∷ []) in last_or_below (length es) k (omega arith)

  exact-new : (i j : ℕ) → i < length (es ++ e ∷ []) → j < length (es ++ e ∷ []) → at new i ≡ at new j → i ≡ j
  exact-new i j p q same = by_cases (places i p) (places j q)
    where
      by_cases : (i < length es) ⊎ (i ≡ length es) → (j < length es) ⊎ (j ≡ length es) → i ≡ j
      by_cases (inl a) (inl b) = h.exact i j a b (sym (at-old i a) ∙ same ∙ at-old j b)
      by_cases (inl a) (inr b) = absurd (no_twin i a (sym (at-old i a) ∙ same ∙ ap (at new) b ∙ at-new))
      by_cases (inr a) (inl b) = absurd (no_twin j b (sym (at-old j b) ∙ sym same ∙ ap (at new) a ∙ at-new))
      by_cases (inr a) (inr b) = a ∙ sym b

  entry-all : (k : ℕ) (d : Entry) → k < length (es ++ e ∷ []) → IsEntry new k (get_or (es ++ e ∷ []) k d)
  entry-all k d le = by_cases (places k le)
    where
      by_cases : (k < length es) ⊎ (k ≡ length es) → IsEntry new k (get_or (es ++ e ∷ []) k d)
      by_cases (inl a) = transport (IsEntry new k) (sym (get_or_append_left es (e ∷ []) d k a)) (entry-old k d a)
      by_cases (inr a) =
          let here : get_or (es ++ e ∷ []) k d ≡ e = get_or_push es e d k (sym a) in
          transport (IsEntry new k) (sym here) (transport (λ (n : ℕ). IsEntry new n e) (sym a) entry-new)

  abbrev IsTableOf : Table → Type 0
  IsTableOf table =
      (length table ≡ length (es ++ e ∷ []))
      × ((k : ℕ) (d : Entry) → k < length (es ++ e ∷ []) → IsEntry table k (get_or (es ++ e ∷ []) k d))
      × ((i j : ℕ) → i < length (es ++ e ∷ []) → j < length (es ++ e ∷ []) → at table i ≡ at table j → i ≡ j)

  pub IsTable-push : IsTable (es ++ e ∷ [])
  IsTable-push =
      let n = h.count in
      let len : length new ≡ length (es ++ e ∷ []) = omega (arith, length-append old (shown old e.0 ∷ []), length-append es (e ∷ [])) in
      let all : IsTableOf (trees_of (es ++ e ∷ [])) = transport IsTableOf (sym (trees_of-push es e)) (len, entry-all, exact-new) in
      record { count = all.0; entry = all.1; exact = all.2 }

-- a node that is there is found by its id
pub made_found : (es : List Entry) (table : Table) (node : TypeNode) (t : TypeId) → trees_of es ≡ table → IsTable es → HasNode es node t.0 → Denotes table (shown table node) t × IsWithinLimits (shown table node)
unfolding tree
made_found es table node t is h f =
    let n = h.count in
    let e : Entry = (node, record { size = 0; depth = 0 }) in
    let node_is : (get_or es t.0 e).0 ≡ node = f.same e in
    let was = h.entry t.0 e f.within in
    let same : shown (trees_of es) node ≡ tree (trees_of es) t = ap (shown (trees_of es)) (sym node_is) ∙ sym was.unfolds in
    let small : IsWithinLimits (shown (trees_of es) node) = transport IsWithinLimits (sym same) was.limits in
    let found : Denotes (trees_of es) (shown (trees_of es) node) t = (let within = f.within in record { valid = omega arith; value = sym same }) in
    transport (λ (tb : Table). Denotes tb (shown tb node) t × IsWithinLimits (shown tb node)) is (found, small)

-- a node that is added has the next id
pub made_added : (es new : List Entry) (table : Table) (node : TypeNode) (t : TypeId) → trees_of es ≡ table → IsTable es → trees_of new ≡ trees_of es ++ shown (trees_of es) node ∷ [] → t.0 ≡ length es → Denotes (trees_of new) (shown table node) t
made_added es new table node t is h more at_end =
    let n = h.count in
    let len : length (trees_of es ++ shown (trees_of es) node ∷ []) ≡ length (trees_of es) + 1 = length-append (trees_of es) _ in
    let place : length (trees_of es) ≡ t.0 = omega arith in
    let found : Denotes (trees_of es ++ shown (trees_of es) node ∷ []) (shown (trees_of es) node) t = record { valid = omega arith; value = tree-last (trees_of es) (shown (trees_of es) node) t place } in
    transport (λ (tb : Table). Denotes (trees_of new) (shown tb node) t) is (transport (λ (tb : Table). Denotes tb (shown (trees_of es) node) t) (sym more) found)

pub grown_added : (old new : List Entry) (table : Table) (t : Ty) → trees_of old ≡ table → trees_of new ≡ trees_of old ++ t ∷ [] → Grows table (trees_of new)
grown_added old new table t is more = transport (λ (tb : Table). Grows tb (trees_of new)) is (transport (Grows (trees_of old)) (sym more) (Grows-push (trees_of old) t))

-- what a table keeps of an id
pub ruleset entries = (entry_at, exact_of)
