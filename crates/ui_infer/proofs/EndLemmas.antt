-- The last steps together.
use Rattle.std.proofs.Common.{◌≡◌, ℕ, List, ◌++◌, length, sym, ◌∙◌, ap}
use Rattle.std.proofs.Common.{subst as transport}
use Rattle.std.specs.Prelude.{Option, Ok}
use Rattle.std.proofs.lemmas.List.{length-map}
use Rattle.ui_types.specs.declared.id.TypeId.{TypeId}
use Rattle.ui_types.specs.Ty.{Ty}
use Rattle.ui_types.specs.Table.{Table, AreIds, Grows, tree, trees}
use Rattle.ui_types.specs.Trees.{trees-grows}
use Rattle.ui_types.specs.Decls.{DeclTrees}
use Rattle.ui_infer.specs.declared.actual.Actual.{Actual}
use Rattle.ui_infer.specs.declared.arguments.Bound.{Bound}
use Rattle.ui_infer.specs.declared.binding.Binding.{Binding}
use Rattle.ui_infer.specs.declared.fault.InferFault.{InferFault}
use Rattle.ui_infer.specs.Faults.{Infers, ◌>>=◌, Refuses, fault_of}
use Rattle.ui_infer.specs.Pairs.{BindingTree}
use Rattle.ui_infer.specs.Bindings.{ActualTree, BoundTree, arguments, all_rounds, explicit_bound}
use Rattle.ui_infer.specs.Bindings.{unbound_constants, verdict, concluded, inferred}
use Rattle.ui_infer.specs.Shown.{AreActuals, AreBindings, AreCores, shown_actuals, shown_bindings}
use Rattle.ui_infer.specs.Shown.{shown_bound, shown_cores}
use Rattle.ui_infer.proofs.StepLemmas.{then_ok, refuses_then, shown_actuals-grows}
use Rattle.ui_infer.proofs.StepLemmas.{shown_bindings-append, shown_bindings-grows}
use Rattle.ui_infer.proofs.StepLemmas.{shown_cores-grows}
use Rattle.ui_infer.proofs.LoopLemmas.{length-cores}

pub concluded_is : (n : ℕ) {old new : Table} (bs more all : List Binding) (differs : Option ℕ)
    (formals : List Ty) (actuals : List ActualTree)
    → Grows old new → AreBindings old bs → all ≡ bs ++ more
    → shown_bindings new more ≡ unbound_constants n (shown_bindings old bs) formals actuals
    → concluded n (record { entries = shown_bindings old bs; differs = differs }) formals actuals
    ≡ verdict n (record { entries = shown_bindings new all; differs = differs })
concluded_is n {old} {new} bs more all differs formals actuals g h joined e =
    let whole : shown_bindings old bs ++ unbound_constants n (shown_bindings old bs) formals
    actuals ≡ shown_bindings new all =
    (λ i. sym (shown_bindings-grows bs g h) i ++ sym e i) ∙ sym (shown_bindings-append new bs more)
    ∙ ap (shown_bindings new) (sym joined) in
    ap (λ (es : List BindingTree). verdict n (record { entries = es; differs = differs })) whole

pub inferred_is : (ds : DeclTrees) (cores : List (Option Ty)) (formals : List Ty)
    (actuals : List ActualTree) (explicit : List Ty) (b : BoundTree) (es : List BindingTree)
    → arguments ds (length cores) (length explicit) actuals formals (explicit_bound explicit)
    ≡ Ok b → all_rounds ds cores b.entries ≡ Ok es
    → inferred ds cores formals actuals explicit
    ≡ concluded (length cores) (record { entries = es; differs = b.differs }) formals actuals
inferred_is ds cores formals actuals explicit b es first second =
    then_ok (arguments ds (length cores) (length explicit) actuals formals
    (explicit_bound explicit)) b
    (λ c. all_rounds ds cores c.entries >>= λ fs. concluded (length cores)
    (record { entries = fs; differs = c.differs }) formals actuals) first
    ∙ then_ok (all_rounds ds cores b.entries) es
    (λ fs. concluded (length cores) (record { entries = fs; differs = b.differs }) formals
    actuals) second

-- ---- what the calls say, in the tables in which they are made
pub arguments_is : (ds : DeclTrees) (table : Table) (cores : List (Option TypeId))
    (params explicit first formals given : List TypeId) (actuals : List Actual) (b : Bound)
    (r : Infers BoundTree)
    → first ≡ explicit → formals ≡ params → given ≡ explicit → shown_bound table b
    ≡ explicit_bound (trees table first)
    → arguments ds (length cores) (length given) (shown_actuals table actuals)
    (trees table formals) (shown_bound table b) ≡ r
    → arguments ds (length (shown_cores table cores)) (length (trees table explicit))
    (shown_actuals table actuals) (trees table params) (explicit_bound (trees table explicit))
    ≡ r
arguments_is ds table cores params explicit first formals given actuals b r p q s bound e =
    let many : length (shown_cores table cores) ≡ length cores = length-cores table cores in
    let few : length (trees table explicit) ≡ length given = length-map explicit (tree table)
    ∙ ap length (sym s) in
    let ids : trees table params ≡ trees table formals = ap (trees table) (sym q) in
    let same : explicit_bound (trees table explicit)
    ≡ shown_bound table b = ap (λ (xs : List TypeId). explicit_bound (trees table xs)) (sym p)
    ∙ sym bound in
    (λ i. arguments ds (many i) (few i) (shown_actuals table actuals) (ids i) (same i)) ∙ e

pub all_rounds_is : {ds now : DeclTrees} {old new : Table} (cores : List (Option TypeId))
    (es : List BindingTree) → now ≡ ds → Grows old new → AreCores old cores
    → all_rounds ds (shown_cores old cores) es ≡ all_rounds now (shown_cores new cores) es
all_rounds_is cores es e g h = λ i. all_rounds (sym e i) (sym (shown_cores-grows cores g h) i) es

pub concluded_here : {old new : Table} (cores : List (Option TypeId)) (b : BoundTree)
    (params formals : List TypeId) (actuals : List Actual)
    → Grows old new → formals ≡ params → AreIds old params → AreActuals old actuals
    → concluded (length (shown_cores old cores)) b (trees old params) (shown_actuals old actuals)
    ≡ concluded (length cores) b (trees new formals) (shown_actuals new actuals)
concluded_here {old} {new} cores b params formals actuals g q h k =
    let ids : trees old params ≡ trees new formals = sym (trees-grows params g h)
    ∙ ap (trees new) (sym q) in
    let acts : shown_actuals old actuals ≡ shown_actuals new actuals = sym
    (shown_actuals-grows actuals g k) in
    λ i. concluded (length-cores old cores i) b (ids i) (acts i)

pub inferred_stops : (table : Table) (ds : DeclTrees) (cores : List (Option Ty))
    (formals : List Ty) (actuals : List ActualTree) (explicit : List Ty) (b : BoundTree)
    (e : InferFault)
    → arguments ds (length cores) (length explicit) actuals formals (explicit_bound explicit)
    ≡ Ok b
    → Refuses table (fault_of (all_rounds ds cores b.entries)) e
    → Refuses table (fault_of (inferred ds cores formals actuals explicit)) e
inferred_stops table ds cores formals actuals explicit b e first why =
    transport (λ (w : Infers (List Ty)). Refuses table (fault_of w) e)
    (sym (then_ok (arguments ds (length cores) (length explicit) actuals formals
    (explicit_bound explicit)) b
    (λ c. all_rounds ds cores c.entries >>= λ fs. concluded (length cores)
    (record { entries = fs; differs = c.differs }) formals actuals) first))
    (refuses_then table (all_rounds ds cores b.entries)
    (λ fs. concluded (length cores) (record { entries = fs; differs = b.differs }) formals
    actuals) e why)
