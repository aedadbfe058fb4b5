-- The turn of one type parameter.
use Rattle.std.proofs.Common.{◌≡◌, ℕ, zero, suc, ◌<◌, Bool, true, false, List, [], ◌∷◌, ◌++◌}
use Rattle.std.proofs.Common.{length, get_or, refl, sym, ◌∙◌, ap, arith, subst as transport}
use Rattle.std.specs.Prelude.{Option, Some, None, Ok, slice_index_or, slice_set}
use Rattle.ui_types.specs.Ty.{Ty}
use Rattle.ui_types.specs.Table.{Table, Grows}
use Rattle.ui_types.specs.Decls.{DeclTrees}
use Rattle.ui_infer.specs.declared.binding.Binding.{Binding}
use Rattle.ui_infer.specs.declared.fault.InferFault.{InferFault}
use Rattle.ui_infer.specs.Faults.{Infers, ◌>>=◌, fault_of, Refuses}
use Rattle.ui_infer.specs.Pairs.{BindingTree}
use Rattle.ui_infer.specs.Bindings.{RoundTree, first_of, core_bindings, with_core}
use Rattle.ui_infer.specs.Bindings.{turn}
use Rattle.ui_infer.specs.Shown.{AreBindings, shown_bindings}
use Rattle.ui_infer.proofs.StepLemmas.{then_ok, refuses_then, shown_bindings-append}
use Rattle.ui_infer.proofs.StepLemmas.{shown_bindings-grows}

pub with_core_ok : (ds : DeclTrees) (n : ℕ) (core : Option Ty) (t : Ty) {old mid : Table}
    (bs new found : List Binding)
    → Grows old mid → AreBindings old bs → core_bindings ds n core t
    ≡ Ok (shown_bindings mid found) → new ≡ bs ++ found
    → with_core ds n core t (shown_bindings old bs) ≡ Ok (shown_bindings mid new)
with_core_ok ds n core t {old} {mid} bs new found g h e push =
    let joined : shown_bindings old bs ++ shown_bindings mid found ≡ shown_bindings mid new =
    ap (λ (cs : List BindingTree). cs ++ shown_bindings mid found)
    (sym (shown_bindings-grows bs g h))
    ∙ sym (shown_bindings-append mid bs found) ∙ ap (shown_bindings mid) (sym push) in
    then_ok (core_bindings ds n core t) (shown_bindings mid found)
    (λ cs. Ok (shown_bindings old bs ++ cs)) e
    ∙ ap (λ (cs : List BindingTree). let r : Infers (List BindingTree) = Ok cs in r) joined

pub at_default : (bs : List Bool) (k : ℕ) (d e : Bool) → k < length bs → get_or bs k d
    ≡ get_or bs k e
at_default [] k d e h = absurd (omega arith)
at_default (b ∷ bs) zero d e h = refl
at_default (b ∷ bs) (suc k) d e h = at_default bs k d e (omega arith)

pub turn_idle : (ds : DeclTrees) (n k : ℕ) (core : Option Ty) (r : RoundTree)
    → slice_index_or r.taken k true ≡ true → turn ds n k core r ≡ Ok r
turn_idle ds n k core r h = rw h refl

pub turn_unbound : (ds : DeclTrees) (n k : ℕ) (core : Option Ty) (r : RoundTree)
    → slice_index_or r.taken k true ≡ false → first_of k r.entries ≡ None → turn ds n k core r
    ≡ Ok r
turn_unbound ds n k core r h e = rw (h, e) refl

turn_is : (ds : DeclTrees) (n k : ℕ) (core : Option Ty) (r : RoundTree) (t : Ty)
    → slice_index_or r.taken k true ≡ false → first_of k r.entries ≡ Some t
    → turn ds n k core r ≡ (with_core ds n core t r.entries
    >>= λ es. Ok (record { entries = es; taken = slice_set r.taken k true }))
turn_is ds n k core r t h e = rw (h, e) refl

pub turn_ok : (ds : DeclTrees) (n k : ℕ) (core : Option Ty) (r : RoundTree) (t : Ty)
    (es : List BindingTree) → slice_index_or r.taken k true ≡ false → first_of k r.entries ≡ Some t
    → with_core ds n core t r.entries ≡ Ok es → turn ds n k core r
    ≡ Ok (record { entries = es; taken = slice_set r.taken k true })
turn_ok ds n k core r t es h e w =
    turn_is ds n k core r t h e ∙ then_ok (with_core ds n core t r.entries) es
    (λ cs. Ok (record { entries = cs; taken = slice_set r.taken k true })) w

pub turn_refused : (table : Table) (ds : DeclTrees) (n k : ℕ) (core : Option Ty) (r : RoundTree)
    (t : Ty) (e : InferFault) → slice_index_or r.taken k true ≡ false → first_of k r.entries
    ≡ Some t
    → Refuses table (fault_of (with_core ds n core t r.entries)) e
    → Refuses table (fault_of (turn ds n k core r)) e
turn_refused table ds n k core r t e h f why =
    transport (λ (w : Infers RoundTree). Refuses table (fault_of w) e)
    (sym (turn_is ds n k core r t h f))
    (refuses_then table (with_core ds n core t r.entries)
    (λ es. Ok (record { entries = es; taken = slice_set r.taken k true })) e why)
