-- What a walk has met, step by step.
use Rattle.std.proofs.Common.{◌≡◌, ℕ, Bool, true, false, List, [], ◌∷◌, ◌++◌, sym, ap, ◌∙◌, inl, inr, subst, rules, Decides}
use Rattle.std.specs.Prelude.{nat_eq, All, if◌then◌else◌}
use Rattle.std.specs.List.{list_any}
use Rattle.std.proofs.lemmas.Bool.{false≢true, or_cases}
use Rattle.std.proofs.lemmas.Bool.Decides.{Decides-eqb}
use Rattle.std.proofs.lemmas.List.Elements.{All-head, All-tail, All-push, All-weaker}
use Rattle.indexmap.specs.IndexSet.{insert_key}
use Rattle.ui_base.specs.declared.name.Name.{Name}
use Rattle.ui_types.specs.declared.id.TypeId.{TypeId}
use Rattle.ui_types.specs.contracts.id.TypeIdPartialEq.TheImpl.{ghosts as ids}
use Rattle.ui_types.specs.Table.{Table, IsId, AreIds, tree}
use Rattle.ui_order.specs.Steps.{has}
use Rattle.ui_held.specs.declared.held.Walk.{Walk}
use Rattle.ui_held.specs.Held.{held, places}
use Rattle.ui_held.specs.Walk.{AreIn, IsSame, IsWalk, Looks}
use Rattle.ui_held.proofs.Lists.{places-append, has_both, has_left, has_right}

Decides-id : (a b : TypeId) → Decides (ids.eq a b) (a ≡ b)
Decides-id a b = search (rules, Decides-eqb)

-- what holds of each key holds of one that is found
found_at : (P : TypeId → Type 0) (t : TypeId) (ks : List TypeId) → All P ks
    → list_any (ids.eq t) ks ≡ true → P t
found_at P t [] a h = absurd (false≢true h)
found_at P t (k ∷ ks) a h = elim (or_cases (ids.eq t k) (list_any (ids.eq t) ks) h) [
  | inl same ↦ subst P (sym ((Decides-id t k).0 same)) (All-head P k ks a)
  | inr rest ↦ found_at P t ks (All-tail P k ks a) rest
]

all_inserted : (P : TypeId → Type 0) (ks : List TypeId) (t : TypeId) → All P ks → P t
    → All P (insert_key ids.eq ks t)
all_inserted P ks t a p = by (list_any (ids.eq t) ks)
  where
    by : (b : Bool) → All P (if b then ks else ks ++ t ∷ [])
    by true = a
    by false = All-push P ks t a p

module _ (table : Table) (names : List Name) where
  abbrev finds : Walk → TypeId → Type 0
  finds walk t = AreIn (places names (held (tree table t))) walk.held.items

  -- a type that was looked at
  pub looked_again : (t : TypeId) (w : Walk) → IsWalk table names w
      → list_any (ids.eq t) w.looked.keys ≡ true → Looks table names (held (tree table t)) w w
  looked_again t w i h = record {
    walk = i;
    keeps = λ k p. p;
    finds = found_at (finds w) t w.looked.keys i.found h;
    only = λ k p. inl p;
  }

  -- a type that holds nothing
  pub looks_nothing : (w : Walk) → IsWalk table names w → Looks table names [] w w
  looks_nothing w i = record {
    walk = i;
    keeps = λ k p. p;
    finds = λ k p. absurd (false≢true p);
    only = λ k p. inl p;
  }

  -- one after another
  pub looks_more : (xs ys : List Name) (a b c : Walk) → Looks table names xs a b
      → Looks table names ys b c → Looks table names (xs ++ ys) a c
  looks_more xs ys a b c f g = record {
    walk = g.walk;
    keeps = λ k p. g.keeps k (f.keeps k p);
    finds = λ k p. elim (has_both (places names xs) (places names ys) k
        (sym (ap (λ (ns : List ℕ). has nat_eq ns k) (places-append names xs ys)) ∙ p)) [
          | inl q ↦ g.keeps k (f.finds k q)
          | inr q ↦ g.finds k q
        ];
    only = λ k p. elim (g.only k p) [
      | inl q ↦ elim (f.only k q) [
        | inl r ↦ inl r
        | inr r ↦ inr (ap (λ (ns : List ℕ). has nat_eq ns k) (places-append names xs ys)
            ∙ has_left (places names xs) (places names ys) k r)
      ]
      | inr q ↦ inr (ap (λ (ns : List ℕ). has nat_eq ns k) (places-append names xs ys)
          ∙ has_right (places names xs) (places names ys) k q)
    ];
  }

  -- the type is marked as one that was looked at
  pub looks_marked : (t : TypeId) (a b c : Walk) → IsId table t
      → Looks table names (held (tree table t)) a b → c.held.items ≡ b.held.items
      → c.looked.keys ≡ insert_key ids.eq b.looked.keys t
      → Looks table names (held (tree table t)) a c
  looks_marked t a b c v f e l = record {
    walk = record {
      ids = subst (AreIds table) (sym l)
          (all_inserted (IsId table) b.looked.keys t f.walk.ids v);
      found = subst (λ (hs : List ℕ). All (λ u. AreIn (places names (held (tree table u))) hs)
          c.looked.keys) (sym e)
          (subst (All (finds b)) (sym l)
          (all_inserted (finds b) b.looked.keys t f.walk.found f.finds));
    };
    keeps = λ k p. ap (λ (hs : List ℕ). has nat_eq hs k) e ∙ f.keeps k p;
    finds = λ k p. ap (λ (hs : List ℕ). has nat_eq hs k) e ∙ f.finds k p;
    only = λ k p. f.only k (sym (ap (λ (hs : List ℕ). has nat_eq hs k) e) ∙ p);
  }

  -- the type of a name is found
  pub looks_put : (n : Name) (a b : Walk) → IsWalk table names a → b.looked ≡ a.looked
      → b.held.items ≡ a.held.items ++ places names (n ∷ [])
      → Looks table names (n ∷ []) a b
  looks_put n a b i l e = record {
    walk = record {
      ids = subst (λ s. AreIds table s.keys) (sym l) i.ids;
      found = subst (λ s. All (finds b) s.keys) (sym l)
          (All-weaker (finds a) (finds b) (λ t p k q. grown k (p k q)) a.looked.keys i.found);
    };
    keeps = grown;
    finds = λ k p. ap (λ (hs : List ℕ). has nat_eq hs k) e
        ∙ has_right a.held.items (places names (n ∷ [])) k p;
    only = λ k p. has_both a.held.items (places names (n ∷ [])) k
        (sym (ap (λ (hs : List ℕ). has nat_eq hs k) e) ∙ p);
  }
    where
      grown : AreIn a.held.items b.held.items
      grown k p = ap (λ (hs : List ℕ). has nat_eq hs k) e
          ∙ has_left a.held.items (places names (n ∷ [])) k p

  -- a walk that began with nothing
  pub whole_walk : (ns : List Name) (a b : Walk) → a.held.items ≡ [] → Looks table names ns a b
      → IsSame (places names ns) b.held.items
  whole_walk ns a b e f = (
    f.finds,
    λ k p. elim (f.only k p) [
      | inl q ↦ absurd (false≢true (sym (ap (λ (hs : List ℕ). has nat_eq hs k) e) ∙ q))
      | inr q ↦ q
    ],
  )
