-- The links of a graph, and what the types hold.
use Rattle.std.proofs.Common.{◌≡◌, ℕ, zero, suc, ◌+◌, ◌<◌, ◌≤◌, List, [], ◌∷◌, ◌++◌, get_or, length, refl, sym, ap, ◌∙◌, subst, inl, inr, arith, length-append}
use Rattle.std.specs.Prelude.{nat_eq, Option, Some, None, Vec, slice_index_or}
use Rattle.std.specs.declared.alloc.Global.{Global}
use Rattle.std.proofs.lemmas.Bool.{cases_lt, false≢true}
use Rattle.ui_base.specs.declared.name.Name.{Name}
use Rattle.ui_types.specs.declared.id.TypeId.{TypeId}
use Rattle.ui_types.specs.Ty.{Ty, param}
use Rattle.ui_types.specs.Table.{Table, tree, trees}
use Rattle.ui_order.specs.Steps.{has, Leads, direct, onward}
use Rattle.ui_order.specs.Numbers.{Links, linked, AreLinked, IsFirstOnCycle}
use Rattle.ui_held.specs.Held.{held, places, held_by, IsFirstInfinite}
use Rattle.ui_held.specs.Walk.{IsSame}
use Rattle.ui_held.proofs.Lists.{places_within}

-- the links of the first types are what these hold
pub record AreHeld (names : List Name) (unders : List Ty) (count : ℕ) (links : Links) : Type 0 where
  pub size : length links ≡ count
  pub same : (k : ℕ) → k < count → IsSame (held_by names unders k) (linked links k)

linked_front : (links : Links) (v : Vec ℕ Global) (k : ℕ) → k < length links
    → linked (links ++ v ∷ []) k ≡ linked links k
linked_front [] v k h = absurd (omega arith)
linked_front (w ∷ ws) v zero h = refl
linked_front (w ∷ ws) v (suc k) h = linked_front ws v k (omega arith)

past_end : (links : Links) (k : ℕ) → length links ≤ k → linked links k ≡ []
past_end [] k h = refl
past_end (w ∷ ws) zero h = absurd (omega arith)
past_end (w ∷ ws) (suc k) h = past_end ws k (omega arith)

linked_last : (links : Links) (v : Vec ℕ Global) → linked (links ++ v ∷ []) (length links) ≡ v.items
linked_last [] v = refl
linked_last (w ∷ ws) v = linked_last ws v

-- the links of one type more
pub held_more : (names : List Name) (unders : List Ty) (count : ℕ) (links : Links)
    (v : Vec ℕ Global) → AreHeld names unders count links
    → IsSame (held_by names unders count) v.items
    → AreHeld names unders (count + 1) (links ++ v ∷ [])
held_more names unders count links v a s = record {
  size = let e = a.size in omega (arith, length-append links (v ∷ []));
  same = λ k h. elim (cases_lt k count) [
    | inl lt ↦ subst (λ ks. IsSame (held_by names unders k) ks)
        (sym (linked_front links v k (let e = a.size in omega arith))) (a.same k lt)
    | inr le ↦
        let at : k ≡ count = omega arith in
        subst (λ ks. IsSame (held_by names unders k) ks)
        (sym (ap (λ i. linked (links ++ v ∷ []) i) (at ∙ sym a.size) ∙ linked_last links v))
        (subst (λ i. IsSame (held_by names unders i) v.items) (sym at) s)
  ];
}

under_at : (table : Table) (ids : List TypeId) (k : ℕ) (d : TypeId) → k < length ids
    → slice_index_or (trees table ids) k (param 0) ≡ tree table (get_or ids k d)
under_at table [] k d h = absurd (omega arith)
under_at table (t ∷ ts) zero d h = refl
under_at table (t ∷ ts) (suc k) d h = under_at table ts k d (omega arith)

-- what the next type holds is linked
pub linked_more : (table : Table) (names : List Name) (ids : List TypeId) (k : ℕ) (d : TypeId)
    (links : Links) (v : Vec ℕ Global) → k < length ids
    → AreHeld names (trees table ids) k links
    → IsSame (places names (held (tree table (get_or ids k d)))) v.items
    → AreHeld names (trees table ids) (k + 1) (links ++ v ∷ [])
linked_more table names ids k d links v h a s =
    held_more names (trees table ids) k links v a
    (subst (λ t. IsSame (places names (held t)) v.items) (sym (under_at table ids k d h)) s)

-- no type is linked at first
pub held_none : (names : List Name) (unders : List Ty) → AreHeld names unders 0 []
held_none names unders = record { size = refl; same = λ k h. absurd (omega arith) }

module _ (names : List Name) (unders : List Ty) (links : Links)
    (a : AreHeld names unders (length names) links) where
  pub held_linked : AreLinked links
  held_linked i j h = elim (cases_lt i (length names)) [
    | inl lt ↦
        let in_names = places_within names (held (slice_index_or unders i (param 0))) j
        ((a.same i lt).1 j h) in
        let e = a.size in omega arith
    | inr le ↦ absurd (false≢true (sym (ap (λ (ks : List ℕ). has nat_eq ks j)
        (past_end links i (let e = a.size in omega arith))) ∙ h))
  ]

  to_within : (p q : ℕ) → Leads nat_eq (held_by names unders) p q → q < length names
  to_within p q (direct h) = places_within names (held (slice_index_or unders p (param 0))) q h
  to_within p r (onward {q} l h) = places_within names (held (slice_index_or unders q (param 0))) r h

  to_linked : (p q : ℕ) → p < length names → Leads nat_eq (held_by names unders) p q
      → Leads nat_eq (linked links) p q
  to_linked p q s (direct h) = direct ((a.same p s).0 q h)
  to_linked p r s (onward {q} l h) =
      onward (to_linked p q s l) ((a.same q (to_within p q l)).0 r h)

  from_within : (p q : ℕ) → Leads nat_eq (linked links) p q → q < length names
  from_within p q (direct h) = let w = held_linked p q h in let e = a.size in omega arith
  from_within p r (onward {q} l h) = let w = held_linked q r h in let e = a.size in omega arith

  from_linked : (p q : ℕ) → p < length names → Leads nat_eq (linked links) p q
      → Leads nat_eq (held_by names unders) p q
  from_linked p q s (direct h) = direct ((a.same p s).1 q h)
  from_linked p r s (onward {q} l h) =
      onward (from_linked p q s l) ((a.same q (from_within p q l)).1 r h)

  pub first_infinite_is : (r : Option ℕ) → IsFirstOnCycle links r → IsFirstInfinite names unders r
  first_infinite_is None f = λ k h i. f k (let e = a.size in omega arith) (to_linked k k h i)
  first_infinite_is (Some i) f =
      let at : i < length names = let e = a.size in let lt = f.0 in omega arith in
      (at, from_linked i i at f.1, λ k lt h. f.2 k lt (to_linked k k (omega arith) h))
