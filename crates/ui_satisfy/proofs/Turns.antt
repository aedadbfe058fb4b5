-- The loops of the search: one type after another, and one union after another.
use Rattle.std.proofs.Common.{◌≡◌, ℕ, ◌+◌, ◌<◌, ◌≤◌, Bool, true, false, List, [], ◌∷◌, length, drop}
use Rattle.std.proofs.Common.{get_or, refl, sym, ap, ◌∙◌, subst}
use Rattle.std.specs.Prelude.{Result, Ok, Err}
use Rattle.std.proofs.lemmas.List.{drop_all}
use Rattle.ui_types.specs.declared.id.TypeId.{TypeId}
use Rattle.ui_types.specs.Ty.{Ty}
use Rattle.ui_types.specs.Table.{Table, tree, trees}
use Rattle.ui_types.specs.Decls.{DeclTrees}
use Rattle.ui_sets.specs.declared.fault.SetFault.{SetFault}
use Rattle.ui_sets.specs.declared.fault.SetFault.TheVariants.{Unfit as Unfits, TooBig, TooDeep}
use Rattle.ui_sets.specs.declared.fault.SetFault.TheVariants.{NoMemory}
use Rattle.ui_terms.proofs.EachLoop.{rest_at}
use Rattle.ui_satisfy.specs.declared.marks.Marks.{Marks}
use Rattle.ui_satisfy.specs.Comparable.{term_types}
use Rattle.ui_satisfy.specs.Search.{Seen, Look, refused, holds, fails, and_then, or_else, all_looked}
use Rattle.ui_satisfy.specs.Search.{one_looked, look, Ends}
use Rattle.ui_satisfy.specs.Marks.{AreMarks, seen, IsLonger, found, IsFound, IsRefused, Looks}
use Rattle.ui_satisfy.proofs.Walks.{ends_now, ends_by, fails_by, longer_refl, longer_trans, looks_same}

-- where the second ends, the first does
pub record Leads (a b : ℕ → Look) : Type 0 where
  pub to : (x : Look) → Ends b x → Ends a x

leads_refused : (a b : ℕ → Look) (e : SetFault) → Leads a b → IsRefused b e → IsRefused a e
leads_refused a b (Unfits u) h k = h.to (refused (Unfits u)) k
leads_refused a b TooBig h k = h.to (refused TooBig) k
leads_refused a b TooDeep h k = h.to (refused TooDeep) k
leads_refused a b NoMemory h k = tt

-- the same of a search over other words for the same
pub looks_at : {ds ds' : DeclTrees} {bs bs' : List Ty} (s : Seen) {t t' : Ty} (table : Table)
    (old new : Marks) (r : Result Bool SetFault) → ds' ≡ ds → bs' ≡ bs → t' ≡ t
    → Looks table old new (λ n. look ds' bs' n s t') r → Looks table old new (λ n. look ds bs n s t)
    r
looks_at {ds} {ds'} {bs} {bs'} s {t} {t'} table old new r p q e h =
    looks_same table old new (λ n. look ds' bs' n s t') (λ n. look ds bs n s t) r
    (λ n. sym (λ i. look (p i) (q i) n s (e i))) h

pub all_at : {ds ds' : DeclTrees} {bs bs' : List Ty} (s : Seen) {ts ts' : List Ty} (table : Table)
    (old new : Marks) (r : Result Bool SetFault) → ds' ≡ ds → bs' ≡ bs → ts' ≡ ts
    → Looks table old new (λ n. all_looked (look ds' bs' n) s ts') r
    → Looks table old new (λ n. all_looked (look ds bs n) s ts) r
all_at {ds} {ds'} {bs} {bs'} s {ts} {ts'} table old new r p q e h =
    looks_same table old new (λ n. all_looked (look ds' bs' n) s ts')
    (λ n. all_looked (look ds bs n) s ts) r
    (λ n. sym (λ i. all_looked (look (p i) (q i) n) s (e i))) h

module _ (ds : DeclTrees) (bs : List Ty) (t0 : Table) (m0 : Marks) (ids : List TypeId) where
  -- ---- one type after another
  abbrev pub all_walk : ℕ → Look
  all_walk n = all_looked (look ds bs n) (seen t0 m0) (trees t0 ids)

  abbrev all_rest : Table → Marks → List Ty → ℕ → Look
  all_rest table m ts n = all_looked (look ds bs n) (seen table m) ts

  pub record AllTurns (table : Table) (m : Marks) (i : ℕ) : Type 0 where
    pub marks : AreMarks table m
    pub longer : IsLonger m0.good.keys m.good.keys
    pub leads : Leads all_walk (all_rest table m (trees t0 (drop i ids)))

  pub all_start : AreMarks t0 m0 → AllTurns t0 m0 0
  all_start h = record {
    marks = h;
    longer = longer_refl m0.good.keys;
    leads = record { to = λ x k. k };
  }

  all_here : (table : Table) (m : Marks) (i : ℕ) (d : TypeId) → i < length ids → AllTurns table m i
      → Leads all_walk (all_rest table m (tree t0 (get_or ids i d) ∷ trees t0 (drop (i + 1) ids)))
  all_here table m i d lt h =
      subst (λ (xs : List TypeId). Leads all_walk (all_rest table m (trees t0 xs)))
      (rest_at ids i d lt) h.leads

  pub all_more : (table u : Table) (m m' : Marks) (i : ℕ) (d : TypeId) → i < length ids
      → AllTurns table m i
      → IsFound u m m' (λ n. look ds bs n (seen table m) (tree t0 (get_or ids i d))) true
      → AllTurns u m' (i + 1)
  all_more table u m m' i d lt h k = record {
    marks = k.marks;
    longer = longer_trans m0.good.keys m.good.keys m'.good.keys h.longer k.longer;
    leads = record {
      to = λ x e. (all_here table m i d lt h).to x
          (ends_by (λ n r. and_then r (λ s'. all_looked (look ds bs n) s'
          (trees t0 (drop (i + 1) ids))))
          (λ n. look ds bs n (seen table m) (tree t0 (get_or ids i d))) (holds (seen u m')) x k.ends
          e);
    };
  }

  pub all_stops : (table u : Table) (m m' : Marks) (i : ℕ) (d : TypeId) → i < length ids
      → AllTurns table m i
      → IsFound u m m' (λ n. look ds bs n (seen table m) (tree t0 (get_or ids i d))) false
      → IsFound u m0 m' all_walk false
  all_stops table u m m' i d lt h k = record {
    marks = k.marks;
    longer = longer_trans m0.good.keys m.good.keys m'.good.keys h.longer k.longer;
    ends =
        (all_here table m i d lt h).to (fails (seen u m'))
        (ends_by (λ n r. and_then r (λ s'. all_looked (look ds bs n) s'
        (trees t0 (drop (i + 1) ids))))
        (λ n. look ds bs n (seen table m) (tree t0 (get_or ids i d))) (fails (seen u m'))
        (fails (seen u m')) k.ends
        (ends_now (fails (seen u m'))));
  }

  pub all_refused : (table : Table) (m : Marks) (i : ℕ) (d : TypeId) (e : SetFault) → i < length ids
      → AllTurns table m i
      → IsRefused (λ n. look ds bs n (seen table m) (tree t0 (get_or ids i d))) e
      → IsRefused all_walk e
  all_refused table m i d e lt h k =
      leads_refused all_walk (all_rest table m (tree t0 (get_or ids i d) ∷ trees t0
      (drop (i + 1) ids))) e
      (all_here table m i d lt h)
      (fails_by (λ n r. and_then r (λ s'. all_looked (look ds bs n) s'
      (trees t0 (drop (i + 1) ids))))
      (λ n. look ds bs n (seen table m) (tree t0 (get_or ids i d))) e (λ n f. refl) k)

  -- the same of a call in other words
  pub all_more_at : {ds' : DeclTrees} {bs' : List Ty} (table u : Table) (m m' : Marks) (i : ℕ)
      (d : TypeId) (is : Bool)
      → i < length ids → AllTurns table m i → ds' ≡ ds → bs' ≡ bs
      → tree table (get_or ids i d) ≡ tree t0 (get_or ids i d) → is ≡ true
      → IsFound u m m' (λ n. look ds' bs' n (seen table m) (tree table (get_or ids i d))) is
      → AllTurns u m' (i + 1)
  all_more_at table u m m' i d is lt h p q e b k =
      all_more table u m m' i d lt h
      (subst (λ (x : Bool). IsFound u m m' (λ n. look ds bs n (seen table m)
      (tree t0 (get_or ids i d))) x) b
      (looks_at (seen table m) u m m' (Ok is) p q e k))

  pub all_stops_at : {ds' : DeclTrees} {bs' : List Ty} (table u : Table) (m m' : Marks) (i : ℕ)
      (d : TypeId) (is : Bool)
      → i < length ids → AllTurns table m i → ds' ≡ ds → bs' ≡ bs
      → tree table (get_or ids i d) ≡ tree t0 (get_or ids i d) → is ≡ false
      → IsFound u m m' (λ n. look ds' bs' n (seen table m) (tree table (get_or ids i d))) is
      → IsFound u m0 m' all_walk false
  all_stops_at table u m m' i d is lt h p q e b k =
      all_stops table u m m' i d lt h
      (subst (λ (x : Bool). IsFound u m m' (λ n. look ds bs n (seen table m)
      (tree t0 (get_or ids i d))) x) b
      (looks_at (seen table m) u m m' (Ok is) p q e k))

  pub all_refused_at : {ds' : DeclTrees} {bs' : List Ty} (table u : Table) (m m' : Marks) (i : ℕ)
      (d : TypeId) (f : SetFault)
      → i < length ids → AllTurns table m i → ds' ≡ ds → bs' ≡ bs
      → tree table (get_or ids i d) ≡ tree t0 (get_or ids i d)
      → IsRefused (λ n. look ds' bs' n (seen table m) (tree table (get_or ids i d))) f
      → IsRefused all_walk f
  all_refused_at table u m m' i d f lt h p q e k =
      all_refused table m i d f lt h (looks_at (seen table m) u m m' (Err f) p q e k)

  pub all_ends : (table : Table) (m : Marks) (i : ℕ) → length ids ≤ i → AllTurns table m i
      → IsFound table m0 m all_walk true
  all_ends table m i le h = record {
    marks = h.marks;
    longer = h.longer;
    ends =
        (subst (λ (xs : List TypeId). Leads all_walk (all_rest table m (trees t0 xs)))
        (drop_all i ids le) h.leads).to
        (holds (seen table m)) (ends_now (holds (seen table m)));
  }

  -- ---- one union after another
  abbrev pub one_walk : ℕ → Look
  one_walk n = one_looked (look ds bs n) (seen t0 m0) (trees t0 ids)

  abbrev one_rest : Table → Marks → List Ty → ℕ → Look
  one_rest table m ts n = one_looked (look ds bs n) (seen table m) ts

  pub record OneTurns (table : Table) (m : Marks) (i : ℕ) : Type 0 where
    pub marks : AreMarks table m
    pub longer : IsLonger m0.good.keys m.good.keys
    pub leads : Leads one_walk (one_rest table m (trees t0 (drop i ids)))

  pub one_start : AreMarks t0 m0 → OneTurns t0 m0 0
  one_start h = record {
    marks = h;
    longer = longer_refl m0.good.keys;
    leads = record { to = λ x k. k };
  }

  one_here : (table : Table) (m : Marks) (i : ℕ) (d : TypeId) → i < length ids → OneTurns table m i
      → Leads one_walk (one_rest table m (tree t0 (get_or ids i d) ∷ trees t0 (drop (i + 1) ids)))
  one_here table m i d lt h =
      subst (λ (xs : List TypeId). Leads one_walk (one_rest table m (trees t0 xs)))
      (rest_at ids i d lt) h.leads

  abbrev pub union_walk : Table → Marks → TypeId → ℕ → Look
  union_walk table m u n = all_looked (look ds bs n) (seen table m) (term_types (tree t0 u))

  pub one_more : (table u : Table) (m m' : Marks) (i : ℕ) (d : TypeId) → i < length ids
      → OneTurns table m i → IsFound u m m' (union_walk table m (get_or ids i d)) false
      → OneTurns u m' (i + 1)
  one_more table u m m' i d lt h k = record {
    marks = k.marks;
    longer = longer_trans m0.good.keys m.good.keys m'.good.keys h.longer k.longer;
    leads = record {
      to = λ x e. (one_here table m i d lt h).to x
          (ends_by (λ n r. or_else r (λ s'. one_looked (look ds bs n) s'
          (trees t0 (drop (i + 1) ids))))
          (union_walk table m (get_or ids i d)) (fails (seen u m')) x k.ends e);
    };
  }

  pub one_stops : (table u : Table) (m m' : Marks) (i : ℕ) (d : TypeId) → i < length ids
      → OneTurns table m i → IsFound u m m' (union_walk table m (get_or ids i d)) true
      → IsFound u m0 m' one_walk true
  one_stops table u m m' i d lt h k = record {
    marks = k.marks;
    longer = longer_trans m0.good.keys m.good.keys m'.good.keys h.longer k.longer;
    ends =
        (one_here table m i d lt h).to (holds (seen u m'))
        (ends_by (λ n r. or_else r (λ s'. one_looked (look ds bs n) s'
        (trees t0 (drop (i + 1) ids))))
        (union_walk table m (get_or ids i d)) (holds (seen u m')) (holds (seen u m')) k.ends
        (ends_now (holds (seen u m'))));
  }

  pub one_refused : (table : Table) (m : Marks) (i : ℕ) (d : TypeId) (e : SetFault) → i < length ids
      → OneTurns table m i → IsRefused (union_walk table m (get_or ids i d)) e
      → IsRefused one_walk e
  one_refused table m i d e lt h k =
      leads_refused one_walk (one_rest table m (tree t0 (get_or ids i d) ∷ trees t0
      (drop (i + 1) ids))) e
      (one_here table m i d lt h)
      (fails_by (λ n r. or_else r (λ s'. one_looked (look ds bs n) s'
      (trees t0 (drop (i + 1) ids))))
      (union_walk table m (get_or ids i d)) e (λ n f. refl) k)

  pub one_more_at : {ds' : DeclTrees} {bs' : List Ty} (table u : Table) (m m' : Marks) (i : ℕ)
      (d : TypeId) (is : Bool)
      → i < length ids → OneTurns table m i → ds' ≡ ds → bs' ≡ bs
      → tree table (get_or ids i d) ≡ tree t0 (get_or ids i d) → is ≡ false
      → IsFound u m m' (λ n. all_looked (look ds' bs' n) (seen table m)
      (term_types (tree table (get_or ids i d)))) is
      → OneTurns u m' (i + 1)
  one_more_at table u m m' i d is lt h p q e b k =
      one_more table u m m' i d lt h
      (subst (λ (x : Bool). IsFound u m m' (union_walk table m (get_or ids i d)) x) b
      (all_at (seen table m) u m m' (Ok is) p q (ap term_types e) k))

  pub one_stops_at : {ds' : DeclTrees} {bs' : List Ty} (table u : Table) (m m' : Marks) (i : ℕ)
      (d : TypeId) (is : Bool)
      → i < length ids → OneTurns table m i → ds' ≡ ds → bs' ≡ bs
      → tree table (get_or ids i d) ≡ tree t0 (get_or ids i d) → is ≡ true
      → IsFound u m m' (λ n. all_looked (look ds' bs' n) (seen table m)
      (term_types (tree table (get_or ids i d)))) is
      → IsFound u m0 m' one_walk true
  one_stops_at table u m m' i d is lt h p q e b k =
      one_stops table u m m' i d lt h
      (subst (λ (x : Bool). IsFound u m m' (union_walk table m (get_or ids i d)) x) b
      (all_at (seen table m) u m m' (Ok is) p q (ap term_types e) k))

  pub one_refused_at : {ds' : DeclTrees} {bs' : List Ty} (table u : Table) (m m' : Marks) (i : ℕ)
      (d : TypeId) (f : SetFault)
      → i < length ids → OneTurns table m i → ds' ≡ ds → bs' ≡ bs
      → tree table (get_or ids i d) ≡ tree t0 (get_or ids i d)
      → IsRefused (λ n. all_looked (look ds' bs' n) (seen table m)
      (term_types (tree table (get_or ids i d)))) f
      → IsRefused one_walk f
  one_refused_at table u m m' i d f lt h p q e k =
      one_refused table m i d f lt h (all_at (seen table m) u m m' (Err f) p q (ap term_types e) k)

  pub one_ends : (table : Table) (m : Marks) (i : ℕ) → length ids ≤ i → OneTurns table m i
      → IsFound table m0 m one_walk false
  one_ends table m i le h = record {
    marks = h.marks;
    longer = h.longer;
    ends =
        (subst (λ (xs : List TypeId). Leads one_walk (one_rest table m (trees t0 xs)))
        (drop_all i ids le) h.leads).to
        (fails (seen table m)) (ends_now (fails (seen table m)));
  }
