-- Bindings with one more.
use Rattle.std.proofs.Common.{◌≡◌, ℕ, ◌+◌, ◌<◌, ◌≤◌, Bool, false, List, [], ◌∷◌, ◌++◌, length}
use Rattle.std.proofs.Common.{drop, get_or, refl, sym, ◌∙◌, ap, append_assoc}
use Rattle.std.proofs.Common.{subst as transport}
use Rattle.std.proofs.lemmas.List.{append-nil, drop_all}
use Rattle.std.proofs.lemmas.List.Elements.{All-nil, All-cons}
use Rattle.ui_types.specs.declared.id.TypeId.{TypeId}
use Rattle.ui_types.specs.Ty.{Ty}
use Rattle.ui_types.specs.Table.{Table, IsId, Grows, Denotes, trees}
use Rattle.ui_infer.specs.declared.binding.Binding.{Binding}
use Rattle.ui_infer.specs.Pairs.{BindingTree}
use Rattle.ui_infer.specs.Bindings.{numbered, unless_bound}
use Rattle.ui_infer.specs.Shown.{AreBindings, shown_binding, shown_bindings}
use Rattle.ui_infer.proofs.StepLemmas.{dropped, AreBindings-append, shown_bindings-append}
use Rattle.ui_infer.proofs.StepLemmas.{shown_bindings-grows}

pub pushed_valid : (table : Table) (bs new : List Binding) (b : Binding) → AreBindings table bs
    → IsId table b.ty → new ≡ bs ++ b ∷ [] → AreBindings table new
pushed_valid table bs new b h k e =
    transport (AreBindings table) (sym e)
    (AreBindings-append table bs (b ∷ []) h (All-cons (λ (c : Binding). IsId table c.ty) b [] k
    (All-nil (λ (c : Binding). IsId table c.ty))))

-- ---- explicit arguments
pub numbered_step : (table : Table) (xs : List TypeId) (k : ℕ) (d : TypeId) (bs new : List Binding)
    (whole : List BindingTree)
    → k < length xs → new ≡ bs ++ (record { param = k; ty = get_or xs k d }) ∷ []
    → shown_bindings table bs ++ numbered k (trees table (drop k xs)) ≡ whole
    → shown_bindings table new ++ numbered (k + 1) (trees table (drop (k + 1) xs)) ≡ whole
numbered_step table xs k d bs new whole h push e =
    let b : Binding = record { param = k; ty = get_or xs k d } in
    let rest : List BindingTree = numbered (k + 1) (trees table (drop (k + 1) xs)) in
    let here : numbered k (trees table (drop k xs))
    ≡ shown_binding table b ∷ rest = rw (dropped xs k d h) refl in
    ap (λ (cs : List BindingTree). cs ++ rest)
    (ap (shown_bindings table) push ∙ shown_bindings-append table bs (b ∷ []))
    ∙ append_assoc (shown_bindings table bs) (shown_binding table b ∷ []) rest
    ∙ ap (λ (cs : List BindingTree). shown_bindings table bs ++ cs) (sym here) ∙ e

pub numbered_over : (table : Table) (xs : List TypeId) (k : ℕ) (bs : List Binding)
    (whole : List BindingTree)
    → length xs ≤ k → shown_bindings table bs ++ numbered k (trees table (drop k xs)) ≡ whole
    → shown_bindings table bs ≡ whole
numbered_over table xs k bs whole h e =
    sym (append-nil (shown_bindings table bs))
    ∙ ap (λ (ys : List TypeId). shown_bindings table bs ++ numbered k (trees table ys))
    (sym (drop_all k xs h)) ∙ e

-- ---- constants
pub constant_pushed : {old new : Table} (bs now : List Binding) (k : ℕ) (t : Ty) (ty : TypeId)
    (done : Bool)
    → Grows old new → AreBindings old bs → now ≡ bs ++ (record { param = k; ty = ty }) ∷ []
    → Denotes new t ty → done ≡ false
    → shown_bindings new now ≡ shown_bindings old bs ++ unless_bound done k t
constant_pushed {old} {new} bs now k t ty done g h push d is =
    let b : Binding = record { param = k; ty = ty } in
    ap (shown_bindings new) push ∙ shown_bindings-append new bs (b ∷ [])
    ∙ (λ i. shown_bindings-grows bs g h i ++ (let c : BindingTree = record
    { param = k; ty = d.value i } in c) ∷ [])
    ∙ ap (λ (r : Bool). shown_bindings old bs ++ unless_bound r k t) (sym is)
