-- What a memo keeps as the table grows and as one more type is done.
use Rattle.std.proofs.Common.{◌≡◌, Bool, true, false, List, refl, sym, ◌∙◌, ap, cond, rules, Decides, subst as transport}
use Rattle.std.specs.Prelude.{Some, None, Option, IsSomeAnd}
use Rattle.std.specs.HashMap.{get}
use Rattle.std.specs.Map.{lookup}
use Rattle.std.proofs.lemmas.Bool.Decides.{Decides-eqb}
use Rattle.ui_types.specs.declared.id.TypeId.{TypeId}
use Rattle.ui_types.specs.declared.made.Made.{Made}
use Rattle.ui_types.specs.contracts.id.TypeIdPartialEq.TheImpl.{ghosts as ids}
use Rattle.ui_types.specs.Ty.{Ty, subst}
use Rattle.ui_types.specs.Table.{Table, IsId, AreIds, tree, trees, Grows, Denotes}
use Rattle.ui_types.specs.Trees.{IsId-grows, Denotes-grows, trees-grows}
use Rattle.ui_types.specs.Made.{IsMade, IsMemo, MemoMap}

Decides-id : (a b : TypeId) → Decides (ids.eq a b) (a ≡ b)
Decides-id a b = search (rules, Decides-eqb)

IsSomeAnd-grows : {old new : Table} (t : Ty) (o : Option TypeId) → Grows old new → IsSomeAnd o (Denotes old t) → IsSomeAnd o (Denotes new t)
IsSomeAnd-grows t None g h = h
IsSomeAnd-grows t (Some id) g h = Denotes-grows g h

pub IsMade-grows : {old new : Table} {t : Ty} {m : Made} → Grows old new → IsMade old t m → IsMade new t m
IsMade-grows {t = t} {m = m} g h = record { extent = h.extent; there = λ l. IsSomeAnd-grows t m.id g (h.there l) }

pub IsMemo-grows : {old new : Table} {args : List Ty} {m : MemoMap} → Grows old new → IsMemo old args m → IsMemo new args m
IsMemo-grows {old} {new} {args} g h = record {
  each = λ k v e.
      let was = h.each k v e in
      (IsId-grows k g was.0, transport (λ (t : Ty). IsMade new (subst args t) v) (sym (g.keeps k was.0)) (IsMade-grows g was.1));
}

-- the arguments show the same trees in a table that has grown
pub IsMemo-later : {old new : Table} {m : MemoMap} (args : List TypeId) → Grows old new → AreIds old args → IsMemo new (trees old args) m → IsMemo new (trees new args) m
IsMemo-later {new = new} {m = m} args g h k = transport (λ (ts : List Ty). IsMemo new ts m) (sym (trees-grows args g h)) k

pub IsMemo-earlier : {old mid new : Table} {m : MemoMap} (args : List TypeId) → Grows old mid → AreIds old args → IsMemo new (trees mid args) m → IsMemo new (trees old args) m
IsMemo-earlier {new = new} {m = m} args g h k = transport (λ (ts : List Ty). IsMemo new ts m) (trees-grows args g h) k

-- a memo that has the same entries
pub IsMemo-same : {table : Table} {args : List Ty} {m n : MemoMap} → n.entries ≡ m.entries → IsMemo table args m → IsMemo table args n
IsMemo-same e h = record { each = λ k v f. h.each k v (ap (lookup (ids.eq k)) (sym e) ∙ f) }

-- one more type is done
pub IsMemo-more : {table : Table} {args : List Ty} {m n : MemoMap} (k : TypeId) (v : Made) → IsMemo table args m → IsId table k → IsMade table (subst args (tree table k)) v
    → ((q : TypeId) → get ids.eq n q ≡ cond (ids.eq k q) (Some v) (get ids.eq m q)) → IsMemo table args n
IsMemo-more {table} {args} {m} {n} k v h valid made more = record { each = λ q w e. by_test q w (ids.eq k q) refl (sym (more q) ∙ e) }
  where
    by_test : (q : TypeId) (w : Made) (r : Bool) → ids.eq k q ≡ r → cond (ids.eq k q) (Some v) (get ids.eq m q) ≡ Some w → IsId table q × IsMade table (subst args (tree table q)) w
    by_test q w true t e =
        let same : k ≡ q = (Decides-id k q).0 t in
        let f : Some v ≡ Some w = rw t at e in
        let g : v ≡ w = cc in
        transport (λ (x : TypeId). IsId table x × IsMade table (subst args (tree table x)) w) same (valid, transport (IsMade table (subst args (tree table k))) g made)
    by_test q w false t e = h.each q w (rw t at e)
