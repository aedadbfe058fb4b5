-- What is left of a loop, at one of its places.
use Rattle.std.proofs.Common.{◌≡◌, ℕ, zero, suc, ◌+◌, ◌-◌, ◌<◌, ◌≤◌, Bool, ◌||◌, List}
use Rattle.std.proofs.Common.{◌++◌, length, drop, get_or, refl, sym, ◌∙◌, ap, arith}
use Rattle.std.proofs.Common.{subst as transport}
use Rattle.std.specs.Prelude.{Option, option_map, Ok}
use Rattle.std.proofs.lemmas.List.{length-map}
use Rattle.ui_types.specs.declared.id.TypeId.{TypeId}
use Rattle.ui_types.specs.Ty.{Ty}
use Rattle.ui_types.specs.Table.{Table, AreIds, Grows, tree, trees}
use Rattle.ui_types.specs.Decls.{DeclTrees}
use Rattle.ui_infer.specs.declared.actual.Actual.{Actual}
use Rattle.ui_infer.specs.declared.arguments.Bound.{Bound}
use Rattle.ui_infer.specs.declared.binding.Binding.{Binding}
use Rattle.ui_infer.specs.declared.fault.InferFault.{InferFault}
use Rattle.ui_infer.specs.Faults.{Infers, ◌>>=◌, fault_of, Refuses}
use Rattle.ui_infer.specs.Pairs.{pairs}
use Rattle.ui_infer.specs.Top.{topped}
use Rattle.ui_infer.specs.Bindings.{ActualTree, BoundTree, RoundTree, with_pairs, looked_at}
use Rattle.ui_infer.specs.Bindings.{argument, arguments, turn, turns, rounds, alone}
use Rattle.ui_infer.specs.Bindings.{constant, constants, is_rune_of, has_rune}
use Rattle.ui_infer.specs.Shown.{AreBindings, AreActuals, AreCores}
use Rattle.ui_infer.specs.Shown.{shown_actual, shown_actuals, shown_cores, shown_bound}
use Rattle.ui_infer.specs.Shown.{shown_round}
use Rattle.ui_infer.proofs.StepLemmas.{dropped, then_ok, refuses_then, shown_actual-grows}
use Rattle.ui_infer.proofs.StepLemmas.{shown_bindings-grows, core-grows, shown_cores-grows}

-- ---- a loop that goes on, and one that stops
pub go_on : {A B : Type 0} (m : Infers A) (f : A → Infers B) (x : A) (left whole : Infers B) → left
    ≡ (m >>= f) → left ≡ whole → m ≡ Ok x → f x ≡ whole
go_on m f x left whole e h is = sym (then_ok m x f is) ∙ sym e ∙ h

pub stops : {A B : Type 0} (table : Table) (m : Infers A) (f : A → Infers B) (e : InferFault)
    (left whole : Infers B) → left ≡ (m >>= f) → left ≡ whole → Refuses table (fault_of m) e
    → Refuses table (fault_of whole) e
stops {B = B} table m f e left whole is h why = transport
    (λ (w : Infers B). Refuses table (fault_of w) e) (sym is ∙ h) (refuses_then table m f e why)

-- ---- arguments
pub arguments_at : (ds : DeclTrees) (n e : ℕ) {old new : Table} (actuals : List Actual)
    (formals : List TypeId) (k : ℕ) (da : Actual) (df : TypeId) (b : BoundTree)
    → Grows old new → AreActuals old actuals → AreIds old formals → length formals ≡ length actuals
    → k < length actuals
    → arguments ds n e (shown_actuals old (drop k actuals)) (trees old (drop k formals)) b
    ≡ (argument ds n e (shown_actual new (get_or actuals k da)) (tree new (get_or formals k df)) b
    >>= arguments ds n e (shown_actuals old (drop (k + 1) actuals))
    (trees old (drop (k + 1) formals)))
arguments_at ds n e {old} {new} actuals formals k da df b g va vf l h =
    let p : shown_actual new (get_or actuals k da)
    ≡ shown_actual old (get_or actuals k da) = shown_actual-grows (get_or actuals k da) g
    (va k da h) in
    let q : tree new (get_or formals k df) ≡ tree old (get_or formals k df) = g.keeps
    (get_or formals k df) (vf k df (omega arith)) in
    rw (dropped actuals k da h, dropped formals k df (omega arith))
    (λ i. argument ds n e (sym p i) (sym q i) b
    >>= arguments ds n e (shown_actuals old (drop (k + 1) actuals))
    (trees old (drop (k + 1) formals)))

-- ---- constants
pub constants_at : (n : ℕ) (bound rune : ℕ → Bool) {old new : Table} (actuals : List Actual)
    (formals : List TypeId) (k : ℕ) (da : Actual) (df : TypeId)
    → Grows old new → AreActuals old actuals → AreIds old formals → length formals ≡ length actuals
    → k < length actuals
    → constants n bound rune (shown_actuals old (drop k actuals)) (trees old (drop k formals))
    ≡ constant bound rune (tree new (get_or actuals k da).ty)
    (alone n (shown_actual new (get_or actuals k da)) (tree new (get_or formals k df)))
    ++ constants n bound rune (shown_actuals old (drop (k + 1) actuals))
    (trees old (drop (k + 1) formals))
constants_at n bound rune {old} {new} actuals formals k da df g va vf l h =
    let p : shown_actual new (get_or actuals k da)
    ≡ shown_actual old (get_or actuals k da) = shown_actual-grows (get_or actuals k da) g
    (va k da h) in
    let q : tree new (get_or formals k df) ≡ tree old (get_or formals k df) = g.keeps
    (get_or formals k df) (vf k df (omega arith)) in
    rw (dropped actuals k da h, dropped formals k df (omega arith))
    (λ i. constant bound rune (sym p i).ty (alone n (sym p i) (sym q i))
    ++ constants n bound rune (shown_actuals old (drop (k + 1) actuals))
    (trees old (drop (k + 1) formals)))

pub has_rune_at : (n m : ℕ) (table : Table) (actuals : List Actual) (formals : List TypeId) (k : ℕ)
    (da : Actual) (df : TypeId)
    → length formals ≡ length actuals → k < length actuals
    → has_rune n m (shown_actuals table (drop k actuals)) (trees table (drop k formals))
    ≡ (is_rune_of n m (shown_actual table (get_or actuals k da)) (tree table (get_or formals k df))
    || has_rune n m (shown_actuals table (drop (k + 1) actuals))
    (trees table (drop (k + 1) formals)))
has_rune_at n m table actuals formals k da df l h = rw
    (dropped actuals k da h, dropped formals k df (omega arith)) refl

-- ---- turns and rounds
pub turns_at : (ds : DeclTrees) (n : ℕ) {old new : Table} (cores : List (Option TypeId)) (k : ℕ)
    (d : Option TypeId) (r : RoundTree)
    → Grows old new → AreCores old cores → k < length cores
    → turns ds n k (shown_cores old (drop k cores)) r
    ≡ (turn ds n k (option_map (tree new) (get_or cores k d)) r
    >>= turns ds n (k + 1) (shown_cores old (drop (k + 1) cores)))
turns_at ds n {old} {new} cores k d r g v h =
    let p : option_map (tree new) (get_or cores k d)
    ≡ option_map (tree old) (get_or cores k d) = core-grows (get_or cores k d) g (v k d h) in
    rw (dropped cores k d h)
    (λ i. turn ds n k (sym p i) r >>= turns ds n (k + 1) (shown_cores old (drop (k + 1) cores)))

one_less : (n i : ℕ) → i < n → n - i ≡ suc (n - (i + 1))
one_less n i h = omega arith

pub rounds_at : (ds : DeclTrees) (cs : List (Option Ty)) (n i : ℕ) (r : RoundTree) → i < n
    → rounds ds cs (n - i) r ≡ (turns ds (length cs) 0 cs r >>= rounds ds cs (n - (i + 1)))
rounds_at ds cs n i r h = ap (λ (m : ℕ). rounds ds cs m r) (one_less n i h)

pub rounds_idle : (ds : DeclTrees) (cs : List (Option Ty)) (m : ℕ) (r : RoundTree)
    → turns ds (length cs) 0 cs r ≡ Ok r → rounds ds cs m r ≡ Ok r
rounds_idle ds cs zero r h = refl
rounds_idle ds cs (suc m) r h = then_ok (turns ds (length cs) 0 cs r) r (rounds ds cs m) h
    ∙ rounds_idle ds cs m r h

pub rounds_over : (ds : DeclTrees) (cs : List (Option Ty)) (n i : ℕ) (r : RoundTree) → n ≤ i
    → rounds ds cs (n - i) r ≡ Ok r
rounds_over ds cs n i r h = let z : n - i ≡ 0 = omega arith in ap (λ (m : ℕ). rounds ds cs m r) z

pub length-cores : (table : Table) (cores : List (Option TypeId))
    → length (shown_cores table cores) ≡ length cores
length-cores table cores = length-map cores (option_map (tree table))

-- ---- one argument
pub looked_at_ok : (ds : DeclTrees) (n : ℕ) (a : ActualTree) (f : Ty) (b b' mid : BoundTree)
    (p : Ty × Ty)
    → topped ds f a.ty ≡ Ok p → b' ≡ with_pairs a.index mid (pairs n p.0 p.1) → mid ≡ b
    → looked_at ds n a f b ≡ Ok b'
looked_at_ok ds n a f b b' mid p e h is =
    ap (λ (m : Infers (Ty × Ty)). (m >>= λ q. Ok (pairs n q.0 q.1))
    >>= λ ps. Ok (with_pairs a.index b ps)) e
    ∙ ap (λ (x : BoundTree). let r : Infers BoundTree = Ok x in r)
    (sym (h ∙ ap (λ (x : BoundTree). with_pairs a.index x (pairs n p.0 p.1)) is))

pub shown_bound-grows : {old new : Table} (b : Bound) → Grows old new
    → AreBindings old b.entries.items → shown_bound new b ≡ shown_bound old b
shown_bound-grows b g h = λ i. record {
  entries = shown_bindings-grows b.entries.items g h i;
  differs = b.mismatch;
}

pub shown_round-grows : {old new : Table} (bs : List Binding) (taken : List Bool) → Grows old new
    → AreBindings old bs → shown_round new bs taken ≡ shown_round old bs taken
shown_round-grows bs taken g h = λ i. record {
  entries = shown_bindings-grows bs g h i;
  taken =
      taken;
}

-- the turns of a round, in a table that has grown
pub turns_here : {ds now : DeclTrees} {old new : Table} (cores : List (Option TypeId))
    (r : RoundTree) → now ≡ ds → Grows old new → AreCores old cores
    → turns now (length cores) 0 (shown_cores new cores) r
    ≡ turns ds (length (shown_cores old cores)) 0 (shown_cores old cores) r
turns_here {old = old} cores r e g h = λ i. turns (e i) (sym (length-cores old cores) i) 0
    (shown_cores-grows cores g h i) r
