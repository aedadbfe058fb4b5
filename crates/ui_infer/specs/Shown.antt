-- What is in memory, read in a table.
use Rattle.std.specs.Prelude.{◌==◌, ℕ, Bool, false, List, All, map, slice_index_or, Option}
use Rattle.std.specs.Prelude.{Some, None, IfSome, option_map, if◌then◌else◌}
use Rattle.ui_types.specs.declared.id.TypeId.{TypeId}
use Rattle.ui_types.specs.Ty.{Ty}
use Rattle.ui_types.specs.Table.{Table, IsId, tree}
use Rattle.ui_types.specs.Same.{same_type}
use Rattle.ui_infer.specs.declared.actual.Actual.{Actual}
use Rattle.ui_infer.specs.declared.arguments.Bound.{Bound}
use Rattle.ui_infer.specs.declared.binding.Binding.{Binding}
use Rattle.ui_infer.specs.declared.known.Known.{Known}
use Rattle.ui_infer.specs.declared.inference.Pair.{Pair}
use Rattle.ui_infer.specs.Pairs.{BindingTree}
use Rattle.ui_infer.specs.Faults.{FaultTree, twice}
use Rattle.ui_infer.specs.Bindings.{ActualTree, BoundTree, RoundTree, KnownTree, is_some}

abbrev pub AreBindings : Table → List Binding → Type 0
AreBindings table bs = All (λ b. IsId table b.ty) bs

abbrev pub shown_binding : Table → Binding → BindingTree
shown_binding table b = record { param = b.param; ty = tree table b.ty }

abbrev pub shown_bindings : Table → List Binding → List BindingTree
shown_bindings table bs = map (shown_binding table) bs

abbrev pub AreActuals : Table → List Actual → Type 0
AreActuals table actuals = All (λ a. IsId table a.ty) actuals

abbrev pub shown_actual : Table → Actual → ActualTree
shown_actual table a = record { index = a.index; ty = tree table a.ty; constant = a.constant }

abbrev pub shown_actuals : Table → List Actual → List ActualTree
shown_actuals table actuals = map (shown_actual table) actuals

-- the core types, where there is one
abbrev pub AreCores : Table → List (Option TypeId) → Type 0
AreCores table cs = All (λ c. IfSome c (IsId table)) cs

abbrev pub shown_cores : Table → List (Option TypeId) → List (Option Ty)
shown_cores table cs = map (option_map (tree table)) cs

abbrev pub shown_bound : Table → Bound → BoundTree
shown_bound table b = record {
  entries = shown_bindings table b.entries.items;
  differs = b.mismatch;
}

abbrev pub shown_round : Table → List Binding → List Bool → RoundTree
shown_round table bs taken = record { entries = shown_bindings table bs; taken = taken }

-- ---- what is known of each type parameter
abbrev pub IsKnown : Table → Known → Type 0
IsKnown table k = IfSome k.first (IsId table) × IfSome k.other (IsId table)

abbrev pub shown_known : Table → Known → KnownTree
shown_known table k = record {
  first = option_map (tree table) k.first;
  other = option_map
      (tree table) k.other;
}

abbrev pub AreKnown : Table → List Known → Type 0
AreKnown table ks = All (IsKnown table) ks

abbrev pub all_known : Table → List Known → List KnownTree
all_known table ks = map (shown_known table) ks

abbrev pub known_at : List Known → ℕ → Known
known_at ks k = slice_index_or ks k (record { first = None; other = None })

-- whether anything is known of the type parameter with this number
abbrev pub is_known : List Known → ℕ → Bool
is_known ks k = is_some (known_at ks k).first

abbrev pub is_set : List Bool → ℕ → Bool
is_set bs k = slice_index_or bs k false

abbrev pub shown_pair : Table → Pair → FaultTree
shown_pair table p = twice p.parameter (tree table p.first) (tree table p.second)

-- what is known with one more type
abbrev pub with_other : Ty → Option Ty → Ty → KnownTree
with_other t (Some u) new = record { first = Some t; other = Some u }
with_other t None new = record {
  first = Some t;
  other = if same_type new t then None else Some new;
}

abbrev pub with_first : Option Ty → Option Ty → Ty → KnownTree
with_first None o new = record { first = Some new; other = None }
with_first (Some t) o new = with_other t o new

abbrev pub with_type : KnownTree → Ty → KnownTree
with_type u new = with_first u.first u.other new

abbrev pub with_binding : ℕ → KnownTree → BindingTree → KnownTree
with_binding k u b = if b.param == k then with_type u b.ty else u
