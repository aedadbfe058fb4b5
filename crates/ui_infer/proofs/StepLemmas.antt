-- One step after another, and what is read in a table that has grown.
use Rattle.std.proofs.Common.{◌≡◌, ℕ, ◌+◌, ◌<◌, List, [], ◌∷◌, ◌++◌, length, drop, get_or}
use Rattle.std.proofs.Common.{refl, ap, add-one, drop-cons}
use Rattle.std.specs.Prelude.{Option, Some, None, IfSome, option_map, Ok, Err}
use Rattle.std.proofs.lemmas.List.{map-append}
use Rattle.std.proofs.lemmas.List.Elements.{All-head, All-tail, All-weaker, All-append}
use Rattle.ui_types.specs.declared.id.TypeId.{TypeId}
use Rattle.ui_types.specs.Ty.{Ty}
use Rattle.ui_types.specs.Table.{Table, IsId, Grows, tree}
use Rattle.ui_types.specs.Trees.{IsId-grows, All_by-grows}
use Rattle.ui_infer.specs.declared.actual.Actual.{Actual}
use Rattle.ui_infer.specs.declared.binding.Binding.{Binding}
use Rattle.ui_infer.specs.declared.fault.InferFault.{InferFault}
use Rattle.ui_infer.specs.declared.fault.InferFault.TheVariants.{Mismatch, Twice, NotInferred}
use Rattle.ui_infer.specs.declared.fault.InferFault.TheVariants.{TooBig, TooDeep, NoMemory}
use Rattle.ui_infer.specs.Faults.{Infers, ◌>>=◌, fault_of, Refuses}
use Rattle.ui_infer.specs.Shown.{AreBindings, AreActuals, AreCores, shown_binding, shown_bindings}
use Rattle.ui_infer.specs.Shown.{shown_actual, shown_actuals, shown_cores}

-- ---- the element at a loop's place
pub dropped : {A : Type 0} (xs : List A) (i : ℕ) (d : A) → i < length xs → drop i xs
    ≡ get_or xs i d ∷ drop (i + 1) xs
dropped xs i d h = rw (drop-cons xs i d, add-one) refl

-- ---- lists in a table that has grown
pub AreBindings-grows : {old new : Table} (bs : List Binding) → Grows old new → AreBindings old bs
    → AreBindings new bs
AreBindings-grows bs g h = All_by-grows (λ (b : Binding). b.ty) bs g h

pub shown_bindings-grows : {old new : Table} (bs : List Binding) → Grows old new
    → AreBindings old bs → shown_bindings new bs ≡ shown_bindings old bs
shown_bindings-grows [] g h = refl
shown_bindings-grows {old} {new} (b ∷ bs) g h =
    λ i. (record {
      param = b.param;
      ty = g.keeps b.ty
          (All-head (λ (c : Binding). IsId old c.ty) b bs h) i;
    })
    ∷ shown_bindings-grows bs g (All-tail (λ (c : Binding). IsId old c.ty) b bs h) i

pub AreActuals-grows : {old new : Table} (xs : List Actual) → Grows old new → AreActuals old xs
    → AreActuals new xs
AreActuals-grows xs g h = All_by-grows (λ (a : Actual). a.ty) xs g h

pub shown_actual-grows : {old new : Table} (a : Actual) → Grows old new → IsId old a.ty
    → shown_actual new a ≡ shown_actual old a
shown_actual-grows a g h = λ i. record {
  index = a.index;
  ty = g.keeps a.ty h i;
  constant =
      a.constant;
}

pub core-valid : {old new : Table} (c : Option TypeId) → Grows old new → IfSome c (IsId old)
    → IfSome c (IsId new)
core-valid None g h = tt
core-valid (Some t) g h = IsId-grows t g h

pub core-grows : {old new : Table} (c : Option TypeId) → Grows old new → IfSome c (IsId old)
    → option_map (tree new) c ≡ option_map (tree old) c
core-grows None g h = refl
core-grows (Some t) g h = ap (λ (u : Ty). let o : Option Ty = Some u in o) (g.keeps t h)

pub AreCores-grows : {old new : Table} (cs : List (Option TypeId)) → Grows old new
    → AreCores old cs → AreCores new cs
AreCores-grows {old} {new} cs g h = All-weaker (λ c. IfSome c (IsId old))
    (λ c. IfSome c (IsId new)) (λ c k. core-valid c g k) cs h

pub shown_cores-grows : {old new : Table} (cs : List (Option TypeId)) → Grows old new
    → AreCores old cs → shown_cores new cs ≡ shown_cores old cs
shown_cores-grows [] g h = refl
shown_cores-grows {old} {new} (c ∷ cs) g h =
    λ i. core-grows c g (All-head (λ (d : Option TypeId). IfSome d (IsId old)) c cs h) i
    ∷ shown_cores-grows cs g (All-tail (λ (d : Option TypeId). IfSome d (IsId old)) c cs h) i

pub shown_actuals-grows : {old new : Table} (xs : List Actual) → Grows old new → AreActuals old xs
    → shown_actuals new xs ≡ shown_actuals old xs
shown_actuals-grows [] g h = refl
shown_actuals-grows {old} {new} (a ∷ xs) g h =
    λ i. shown_actual-grows a g (All-head (λ (b : Actual). IsId old b.ty) a xs h) i
    ∷ shown_actuals-grows xs g (All-tail (λ (b : Actual). IsId old b.ty) a xs h) i

pub shown_bindings-append : (table : Table) (bs cs : List Binding)
    → shown_bindings table (bs ++ cs) ≡ shown_bindings table bs ++ shown_bindings table cs
shown_bindings-append table bs cs = map-append (shown_binding table) bs cs

pub AreBindings-append : (table : Table) (bs cs : List Binding) → AreBindings table bs
    → AreBindings table cs → AreBindings table (bs ++ cs)
AreBindings-append table bs cs h k = All-append (λ (b : Binding). IsId table b.ty) bs cs h k

-- ---- one outcome after another
pub refuses_then : {A B : Type 0} (table : Table) (m : Infers A) (f : A → Infers B)
    (e : InferFault) → Refuses table (fault_of m) e → Refuses table (fault_of (m >>= f)) e
refuses_then table (Ok x) f (Mismatch k) h = cc
refuses_then table (Ok x) f (Twice k t u) h = absurd (let e = h.2 in cc)
refuses_then table (Ok x) f (NotInferred k) h = cc
refuses_then table (Ok x) f TooBig h = cc
refuses_then table (Ok x) f TooDeep h = cc
refuses_then table (Ok x) f NoMemory h = tt
refuses_then table (Err x) f e h = h

-- what is left after a step that went well
pub then_ok : {A B : Type 0} (m : Infers A) (x : A) (f : A → Infers B) → m ≡ Ok x → (m >>= f) ≡ f x
then_ok {A = A} m x f e = ap (λ (r : Infers A). r >>= f) e

pub any_no_memory : {A : Type 0} (table : Table) (want : Infers A)
    → Refuses table (fault_of want) NoMemory
any_no_memory table want = tt

-- what a table that has grown tells and what is read there
pub ruleset showing = (
  AreBindings-grows,
  shown_bindings-grows,
  AreActuals-grows,
  shown_actual-grows,
  shown_actuals-grows,
  core-valid,
  core-grows,
  AreCores-grows,
  shown_cores-grows,
  refuses_then,
)
