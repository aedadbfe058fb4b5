-- A whole search: what it answers, and that it is right.
use Rattle.std.proofs.Common.{◌≡◌, ℕ, Bool, true, false, List, [], refl, ap, ◌∙◌, subst, arith}
use Rattle.std.specs.Prelude.{Option, Some, None, Result, Ok, Err, IfOk}
use Rattle.ui_types.specs.Ty.{Ty}
use Rattle.ui_types.specs.Table.{Table, trees}
use Rattle.ui_types.specs.Decls.{DeclTrees}
use Rattle.ui_sets.specs.declared.fault.SetFault.{SetFault}
use Rattle.ui_sets.specs.declared.fault.SetFault.TheVariants.{Unfit as Unfits, TooBig, TooDeep}
use Rattle.ui_sets.specs.declared.fault.SetFault.TheVariants.{NoMemory}
use Rattle.ui_sets.specs.Needed.{Needs}
use Rattle.ui_satisfy.specs.declared.marks.Marks.{Marks}
use Rattle.ui_satisfy.specs.Comparable.{Tells}
use Rattle.ui_satisfy.specs.Search.{Seen, nothing_seen, Look, look, answer_of, compared, Ends, EndsAs}
use Rattle.ui_satisfy.specs.Marks.{seen, found, IsFound, IsRefused, Looks}
use Rattle.ui_satisfy.proofs.Walks.{search_ends}
use Rattle.ui_satisfy.proofs.Right.{search_tells}

nothing_is : (table : Table) (m : Marks) → m.good.keys ≡ [] → m.bad.keys ≡ []
    → seen table m ≡ nothing_seen
nothing_is table m p q = λ i. record { good = trees table (p i); bad = trees table (q i) }

answer_is : (is : Bool) (s : Seen) → answer_of (found is s) ≡ Some (Ok is)
answer_is true s = refl
answer_is false s = refl

module _ (ds : DeclTrees) (bs : List Ty) (t : Ty) (t0 table : Table) (m0 m1 m : Marks)
    (r : Result Bool SetFault)
    (p : m0.good.keys ≡ []) (q : m0.bad.keys ≡ []) where
  from_nothing : Looks table m1 m (λ n. look ds bs n (seen t0 m0) t) r
      → Looks table m1 m (λ n. look ds bs n nothing_seen t) r
  from_nothing h =
      subst (λ (s : Seen). Looks table m1 m (λ n. look ds bs n s t) r) (nothing_is t0 m0 p q) h

  pub whole_answer : Looks table m1 m (λ n. look ds bs n (seen t0 m0) t) r
      → EndsAs (compared ds bs t) r
  whole_answer h = search_ends table m1 m (λ n. look ds bs n nothing_seen t) r (from_nothing h)

  pub whole_right : Looks table m1 m (λ n. look ds bs n (seen t0 m0) t) r → IfOk r (Tells ds bs t)
  whole_right h = by r (from_nothing h)
    where
      by : (r : Result Bool SetFault) → Looks table m1 m (λ n. look ds bs n nothing_seen t) r
          → IfOk r (Tells ds bs t)
      by (Ok is) k =
          search_tells ds bs t k.ends.steps is
          (ap answer_of (k.ends.from k.ends.steps (omega arith)) ∙ answer_is is (seen table m))
      by (Err e) k = tt
