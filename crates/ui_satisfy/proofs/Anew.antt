-- A type that wasn't met, from what is found inside it.
use Rattle.std.proofs.Common.{◌≡◌, ℕ, Bool, true, false, List, length, take, refl, sym, ap, ◌∙◌}
use Rattle.std.proofs.Common.{subst}
use Rattle.std.specs.Prelude.{Option, Some, Result, Ok, Err}
use Rattle.ui_types.specs.declared.id.TypeId.{TypeId}
use Rattle.ui_types.specs.Ty.{Ty}
use Rattle.ui_types.specs.Table.{Table, IsId, Grows, tree, trees}
use Rattle.ui_types.specs.Trees.{trees-grows}
use Rattle.ui_types.specs.Decls.{DeclTrees}
use Rattle.ui_sets.specs.declared.fault.SetFault.{SetFault}
use Rattle.ui_sets.specs.Needed.{Needs, needed, bound_of}
use Rattle.ui_sets.specs.Sites.{number_of}
use Rattle.ui_satisfy.specs.declared.marks.Marks.{Marks}
use Rattle.ui_satisfy.specs.Search.{Seen, put, Look, holds, fails, with_needed, bound_looked, inside}
use Rattle.ui_satisfy.specs.Search.{opened, closed, looked_anew, look, Ends}
use Rattle.ui_satisfy.specs.Marks.{AreMarks, seen, IsLonger, IsFound, IsRefused, Looks}
use Rattle.ui_satisfy.proofs.Walks.{ends_now, ends_by, fails_by, ends_same, fails_same, longer_trans}
use Rattle.ui_satisfy.proofs.Walks.{longer_refl, looks_same}

module _ (ds : DeclTrees) (bs : List Ty) (t0 t1 : Table) (m0 m1 m2 : Marks) (t : TypeId) (u : Ty)
    (opening : seen t0 m1 ≡ opened (seen t0 m0) (tree t0 t))
    (long : IsLonger m0.good.keys m1.good.keys) where
  abbrev pub inside_walk : ℕ → Look
  inside_walk n = inside ds bs (look ds bs n) (seen t0 m1) u (number_of (tree t0 t))

  abbrev opened_walk : ℕ → Look
  opened_walk n =
      inside ds bs (look ds bs n) (opened (seen t0 m0) (tree t0 t)) u (number_of (tree t0 t))

  abbrev pub anew_walk : ℕ → Look
  anew_walk n = looked_anew ds bs (look ds bs n) (seen t0 m0) (tree t0 t) u

  same_walk : (n : ℕ) → opened_walk n ≡ inside_walk n
  same_walk n =
      sym (ap (λ (s : Seen). inside ds bs (look ds bs n) s u (number_of (tree t0 t))) opening)

  pub anew_holds : IsFound t1 m1 m2 inside_walk true → IsFound t1 m0 m2 anew_walk true
  anew_holds h = record {
    marks = h.marks;
    longer = longer_trans m0.good.keys m1.good.keys m2.good.keys long h.longer;
    ends =
        ends_by (λ n r. closed (seen t0 m0) (tree t0 t) r) opened_walk (holds (seen t1 m2))
        (holds (seen t1 m2))
        (ends_same inside_walk opened_walk (holds (seen t1 m2)) same_walk h.ends)
        (ends_now (holds (seen t1 m2)));
  }

  pub anew_refused : (e : SetFault) → IsRefused inside_walk e → IsRefused anew_walk e
  anew_refused e h =
      fails_by (λ n r. closed (seen t0 m0) (tree t0 t) r) opened_walk e (λ n f. refl)
      (fails_same inside_walk opened_walk e same_walk h)

  pub anew_fails : (m3 : Marks) (count : ℕ) → Grows t0 t1 → AreMarks t0 m0 → IsId t0 t
      → IsFound t1 m1 m2 inside_walk false → AreMarks t1 m3 → count ≡ length m0.good.keys
      → m3.good.keys ≡ take count m2.good.keys
      → trees t1 m3.bad.keys ≡ put (tree t1 t) (trees t1 m2.bad.keys)
      → IsFound t1 m0 m3 anew_walk false
  anew_fails m3 count g v id h w c p q =
      let front : take (length m0.good.keys) m2.good.keys ≡ m0.good.keys =
      (longer_trans m0.good.keys m1.good.keys m2.good.keys long h.longer).front in
      let good : m3.good.keys ≡ m0.good.keys = p ∙ ap (λ (n : ℕ). take n m2.good.keys) c ∙ front in
      let shown : trees t1 m3.good.keys ≡ trees t0 m0.good.keys =
      ap (trees t1) good ∙ trees-grows m0.good.keys g v.good in
      let bad : trees t1 m3.bad.keys ≡ put (tree t0 t) (trees t1 m2.bad.keys) =
      q ∙ ap (λ (x : Ty). put x (trees t1 m2.bad.keys)) (g.keeps t id) in
      record {
        marks = w;
        longer =
            subst (λ (ks : List TypeId). IsLonger m0.good.keys ks) (sym good)
            (longer_refl m0.good.keys);
        ends =
            ends_by (λ n r. closed (seen t0 m0) (tree t0 t) r) opened_walk (fails (seen t1 m2))
            (fails (seen t1 m3))
            (ends_same inside_walk opened_walk (fails (seen t1 m2)) same_walk h.ends)
            (record {
              steps = 0;
              from = λ n k. sym (λ i. fails
                  (record { good = shown i; bad = bad i }));
            });
      }

-- ---- the same in other words
module _ {ds ds' : DeclTrees} {bs bs' : List Ty} {s s' : Seen} (table : Table) (old new : Marks)
    (r : Result Bool SetFault)
    (p : ds' ≡ ds) (q : bs' ≡ bs) (e : s' ≡ s) where
  pub anew_at : {t t' : Ty} (u : Ty) → t' ≡ t
      → Looks table old new (λ n. looked_anew ds' bs' (look ds' bs' n) s' t' u) r
      → Looks table old new (λ n. looked_anew ds bs (look ds bs n) s t u) r
  anew_at {t} {t'} u f h =
      looks_same table old new (λ n. looked_anew ds' bs' (look ds' bs' n) s' t' u)
      (λ n. looked_anew ds bs (look ds bs n) s t u) r
      (λ n. sym (λ i. looked_anew (p i) (q i) (look (p i) (q i) n) (e i) (f i) u)) h

  pub param_at : (u b : Ty) (k : ℕ) → needed ds (bound_of bs k) ≡ Ok b
      → Looks table old new (λ n. bound_looked (look ds' bs' n) s' b) r
      → Looks table old new (λ n. inside ds bs (look ds bs n) s u (Some k)) r
  param_at u b k f h =
      looks_same table old new (λ n. bound_looked (look ds' bs' n) s' b)
      (λ n. inside ds bs (look ds bs n) s u (Some k)) r
      (λ n. ap (λ (m : Needs Ty). with_needed m (bound_looked (look ds bs n) s)) f
      ∙ sym (λ i. bound_looked (look (p i) (q i) n) (e i) b)) h
