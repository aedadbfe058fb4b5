-- One needed type after another, up to the first that is past a limit or the first thing that
-- doesn't fit. This project's own.
use Rattle.std.specs.Prelude.{◌≡◌, ℕ, List, [], Option, Some, None, Result, Ok, Err, refl, nat_lt}
use Rattle.std.specs.Prelude.{if◌then◌else◌, slice_index_or, false}
use Rattle.ui_types.specs.declared.id.TypeId.{TypeId}
use Rattle.ui_types.specs.Ty.{Ty, iface, no_types, size, depth}
use Rattle.ui_types.specs.Table.{Table, IsId, tree, max_size, max_depth}
use Rattle.ui_types.specs.Decls.{DeclTrees, under}
use Rattle.ui_sets.specs.declared.fault.SetFault.{SetFault}
use Rattle.ui_sets.specs.declared.fault.SetFault.TheVariants.{Unfit as Unfits, TooBig, TooDeep}
use Rattle.ui_sets.specs.declared.fault.SetFault.TheVariants.{NoMemory}

-- what a question gives, or why it has no answer
abbrev pub Needs : Type 0 → Type 0
Needs A = Result A SetFault

infixl 10 ◌>>=◌
abbrev pub ◌>>=◌ : {A B : Type 0} → Needs A → (A → Needs B) → Needs B
Ok x >>= f = f x
Err fault >>= f = Err fault

-- the type, where it is within the limits
unfoldable pub within : Ty → Needs Ty
within t =
    if nat_lt max_size (size t) then Err TooBig
    else (if nat_lt max_depth (depth t) then Err TooDeep else Ok t)

-- The underlying type, which is needed. Go specification, "Underlying types".
abbrev pub needed : DeclTrees → Ty → Needs Ty
needed ds t = within (under ds t)

-- ---- constraints
-- the interface without methods
abbrev pub any_type : Ty
any_type = iface [] no_types false no_types

-- The constraint of the type parameter of this number; one that has none there has the empty
-- interface.
abbrev pub bound_of : List Ty → ℕ → Ty
bound_of bounds k = slice_index_or bounds k any_type

-- ---- what a call answers
abbrev pub fault_of : {A : Type 0} → Needs A → Option SetFault
fault_of (Ok x) = None
fault_of (Err fault) = Some fault

-- it is this fault, or memory ran out
abbrev pub Refuses : Option SetFault → SetFault → Type 0
Refuses want (Unfits u) = want ≡ Some (Unfits u)
Refuses want TooBig = want ≡ Some TooBig
Refuses want TooDeep = want ≡ Some TooDeep
Refuses want NoMemory = Unit {0}

-- the answer is valid and reads as what is wanted, or it is the fault that is wanted, or memory ran
-- out
abbrev pub Gives : {A B : Type 0} → (B → Type 0) → (B → A) → Needs A → Result B SetFault → Type 0
Gives Valid see want (Ok x) = Valid x × (want ≡ Ok (see x))
Gives Valid see want (Err e) = Refuses (fault_of want) e

abbrev pub GivesType : Table → Needs Ty → Result TypeId SetFault → Type 0
GivesType table = Gives (IsId table) (tree table)

-- the same of an answer that holds no type
abbrev pub Answers : {A : Type 0} → Needs A → Result A SetFault → Type 0
Answers want (Ok x) = want ≡ Ok x
Answers want (Err e) = Refuses (fault_of want) e

-- ---- one call after another
pub refuses_then : {A B : Type 0} (m : Needs A) (f : A → Needs B) (e : SetFault)
    → Refuses (fault_of m) e → Refuses (fault_of (m >>= f)) e
refuses_then (Ok x) f (Unfits u) h = cc
refuses_then (Ok x) f TooBig h = cc
refuses_then (Ok x) f TooDeep h = cc
refuses_then (Ok x) f NoMemory h = tt
refuses_then (Err x) f e h = h

pub within_any : within any_type ≡ Ok any_type
unfolding within
within_any = refl

pub ruleset stepping = (refuses_then, within_any)
