-- What is told of the type parameters, one after another.
use Rattle.std.proofs.Common.{◌≡◌, ℕ, ◌+◌, ◌<◌, ◌≤◌, List, [], ◌∷◌, ◌++◌, length, drop}
use Rattle.std.proofs.Common.{get_or, refl, sym, ◌∙◌, ap, append_assoc}
use Rattle.std.specs.Prelude.{Option, Some, None, option_map, Ok, Err}
use Rattle.std.proofs.lemmas.List.{append-nil, drop_all, map-append}
use Rattle.ui_types.specs.declared.id.TypeId.{TypeId}
use Rattle.ui_types.specs.Ty.{Ty}
use Rattle.ui_types.specs.Table.{Table, tree, trees}
use Rattle.ui_infer.specs.declared.known.Known.{Known}
use Rattle.ui_infer.specs.Faults.{FaultTree, Infers, ◌>>=◌, not_inferred}
use Rattle.ui_infer.specs.Bindings.{earlier, twice_at, first_twice, type_at, solution}
use Rattle.ui_infer.specs.Shown.{shown_known, all_known}
use Rattle.ui_infer.proofs.StepLemmas.{dropped}

-- ---- two types of one type parameter
pub first_twice_at : (table : Table) (ks : List Known) (k : ℕ) (d : Known) → k < length ks
    → first_twice k (all_known table (drop k ks))
    ≡ earlier (twice_at k (shown_known table (get_or ks k d)))
    (first_twice (k + 1) (all_known table (drop (k + 1) ks)))
first_twice_at table ks k d h = rw (dropped ks k d h) refl

-- there is none here
pub none_here : (o : Option FaultTree) (rest left whole : Option FaultTree) → left ≡ earlier o rest
    → left ≡ whole → None ≡ o → rest ≡ whole
none_here o rest left whole e h is = ap (λ (p : Option FaultTree). earlier p rest) is ∙ sym e ∙ h

pub found_here : (o : Option FaultTree) (f : FaultTree) (rest left whole : Option FaultTree) → left
    ≡ earlier o rest → left ≡ whole → Some f ≡ o → Some f ≡ whole
found_here o f rest left whole e h is = ap (λ (p : Option FaultTree). earlier p rest) is ∙ sym e
    ∙ h

-- ---- the types
solution_at : (table : Table) (ks : List Known) (k : ℕ) (d : Known) → k < length ks
    → solution k (all_known table (drop k ks))
    ≡ (type_at k (option_map (tree table) (get_or ks k d).first)
    >>= λ t. (solution (k + 1) (all_known table (drop (k + 1) ks)) >>= λ ts. Ok (t ∷ ts)))
solution_at table ks k d h = rw (dropped ks k d h) refl

regrouped : (m : Infers (List Ty)) (us : List Ty) (t : Ty)
    → (m >>= λ ts. Ok ((us ++ t ∷ []) ++ ts)) ≡ ((m >>= λ ts. Ok (t ∷ ts)) >>= λ ts. Ok (us ++ ts))
regrouped (Ok ts) us t = ap (λ (vs : List Ty). let r : Infers (List Ty) = Ok vs in r)
    (append_assoc us (t ∷ []) ts)
regrouped (Err e) us t = refl

pub solution_step : (table : Table) (ks : List Known) (k : ℕ) (d : Known) (ids new : List TypeId)
    (t : TypeId) (whole : Infers (List Ty))
    → k < length ks → (get_or ks k d).first ≡ Some t → new ≡ ids ++ t ∷ []
    → (solution k (all_known table (drop k ks)) >>= λ ts. Ok (trees table ids ++ ts)) ≡ whole
    → (solution (k + 1) (all_known table (drop (k + 1) ks)) >>= λ ts. Ok (trees table new ++ ts))
    ≡ whole
solution_step table ks k d ids new t whole h is push e =
    let rest : Infers (List Ty) = solution (k + 1) (all_known table (drop (k + 1) ks)) in
    let first : option_map (tree table) (get_or ks k d).first
    ≡ Some (tree table t) = ap (option_map (tree table)) is in
    let here : solution k (all_known table (drop k ks)) ≡ (rest >>= λ ts. Ok (tree table t ∷ ts)) =
    solution_at table ks k d h ∙ ap (λ (o : Option Ty). type_at k o
    >>= λ u. (rest >>= λ ts. Ok (u ∷ ts))) first in
    let shown : trees table new ≡ trees table ids ++ tree table t ∷ [] = ap (trees table) push
    ∙ map-append (tree table) ids (t ∷ []) in
    ap (λ (us : List Ty). rest >>= λ ts. Ok (us ++ ts)) shown
    ∙ regrouped rest (trees table ids) (tree table t)
    ∙ ap (λ (m : Infers (List Ty)). m >>= λ ts. Ok (trees table ids ++ ts)) (sym here) ∙ e

pub solution_stops : (table : Table) (ks : List Known) (k : ℕ) (d : Known) (ids : List TypeId)
    (whole : Infers (List Ty))
    → k < length ks → (get_or ks k d).first ≡ None
    → (solution k (all_known table (drop k ks)) >>= λ ts. Ok (trees table ids ++ ts)) ≡ whole
    → whole ≡ Err (not_inferred k)
solution_stops table ks k d ids whole h is e =
    let rest : Infers (List Ty) = solution (k + 1) (all_known table (drop (k + 1) ks)) in
    let first : option_map (tree table) (get_or ks k d).first
    ≡ None = ap (option_map (tree table)) is in
    sym e ∙ ap (λ (m : Infers (List Ty)). m >>= λ ts. Ok (trees table ids ++ ts))
    (solution_at table ks k d h ∙ ap (λ (o : Option Ty). type_at k o
    >>= λ u. (rest >>= λ ts. Ok (u ∷ ts))) first)

pub solution_over : (table : Table) (ks : List Known) (k : ℕ) (ids : List TypeId)
    (whole : Infers (List Ty))
    → length ks ≤ k → (solution k (all_known table (drop k ks))
    >>= λ ts. Ok (trees table ids ++ ts)) ≡ whole → whole ≡ Ok (trees table ids)
solution_over table ks k ids whole h e =
    sym e ∙ rw (drop_all k ks h) (ap (λ (us : List Ty). let r : Infers (List Ty) = Ok us in r)
    (append-nil (trees table ids)))

pub none_there : {A : Type 0} (o : Option A) (f : A → FaultTree) (p : Option FaultTree)
    → option_map f o ≡ p → ((x : A) → o ≡ Some x → ⊥) → None ≡ p
none_there None f p e none = e
none_there (Some x) f p e none = absurd (none x refl)
