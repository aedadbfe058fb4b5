-- One rule after another, up to the first fault; and what a call answers. This project's own.
use Rattle.std.specs.Prelude.{◌≡◌, ℕ, List, [], Option, Some, None, Result, Ok, Err, refl, nat_lt, if◌then◌else◌}
use Rattle.ui_base.specs.declared.value.Spot.{Spot}
use Rattle.ui_base.specs.declared.kind.Basic.{Basic}
use Rattle.ui_types.specs.Ty.{Ty, basic, size, depth}
use Rattle.ui_types.specs.Table.{Table, IsId, tree, max_size, max_depth}
use Rattle.ui_types.specs.declared.fault.TypeFault.{TypeFault}
use Rattle.ui_types.specs.Decls.{under}
use Rattle.ui_base.specs.declared.fault.FaultKind.{FaultKind}
use Rattle.ui_base.specs.declared.fault.FaultKind.TheVariants.{TypeTooBig, TypeTooDeep}
use Rattle.ui_base.specs.declared.fault.Fault.{Fault}
use Rattle.ui_base.specs.declared.fault.CheckFault.{CheckFault}
use Rattle.ui_base.specs.declared.fault.CheckFault.TheVariants.{NoMemory, Fault as Refused}
use Rattle.ui_scopes.specs.declared.operand.Operand.{Operand}
use Rattle.ui_scopes.specs.Operands.{OperandTree, IsOperand, shown_operand}
use Rattle.ui_scopes.specs.Scopes.{World}

-- what a rule gives, or the first fault
abbrev pub Checks : Type 0 → Type 0
Checks A = Result A Fault

infixl 10 ◌>>=◌
abbrev pub ◌>>=◌ : {A B : Type 0} → Checks A → (A → Checks B) → Checks B
Ok x >>= f = f x
Err fault >>= f = Err fault

abbrev pub fault_at : List ℕ → Spot → FaultKind → List ℕ → Fault
fault_at file at kind name = record { kind = kind; pos = record { file = file; line = at.line; col = at.col }; name = name }

abbrev pub refuse : {A : Type 0} → List ℕ → Spot → FaultKind → Checks A
refuse file at kind = Err (fault_at file at kind [])

-- ---- what a call answers

abbrev pub fault_of : {A : Type 0} → Checks A → Option Fault
fault_of (Ok x) = None
fault_of (Err fault) = Some fault

-- it is this fault, or memory ran out
abbrev pub Refuses : Option Fault → CheckFault → Type 0
Refuses want (Refused fault) = want ≡ Some fault
Refuses want NoMemory = Unit {0}

-- the answer is valid and reads as what is wanted, or it is the fault that is wanted, or memory ran out
abbrev pub Gives : {A B : Type 0} → (B → Type 0) → (B → A) → Checks A → Result B CheckFault → Type 0
Gives Valid see want (Ok x) = Valid x × (want ≡ Ok (see x))
Gives Valid see want (Err e) = Refuses (fault_of want) e

abbrev pub GivesOperand : Table → Checks OperandTree → Result Operand CheckFault → Type 0
GivesOperand table = Gives (IsOperand table) (shown_operand table)

-- ---- types that a rule needs

-- the type, where it is within the limits
unfoldable pub made_at : List ℕ → Spot → Ty → Checks Ty
made_at file at t =
    if nat_lt max_size (size t) then refuse file at TypeTooBig
    else (if nat_lt max_depth (depth t) then refuse file at TypeTooDeep else Ok t)

unfoldable pub under_at : World → List ℕ → Spot → Ty → Checks Ty
under_at w file at t = made_at file at (under w.decls t)

pub made_basic : (file : List ℕ) (at : Spot) (b : Basic) → made_at file at (basic b) ≡ Ok (basic b)
unfolding made_at
made_basic file at b = refl

-- ---- one call after another

pub refuses_then : {A B : Type 0} (m : Checks A) (f : A → Checks B) (e : CheckFault) → Refuses (fault_of m) e → Refuses (fault_of (m >>= f)) e
refuses_then (Ok x) f (Refused fault) h = cc
refuses_then (Ok x) f NoMemory h = tt
refuses_then (Err x) f e h = h

pub ruleset stepping = (made_basic, refuses_then)
