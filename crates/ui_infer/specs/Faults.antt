-- What inference gives, up to its first fault; and what a call answers. This project's own.
use Rattle.std.specs.Prelude.{◌≡◌, ℕ, Option, Some, None, Result, Ok, Err, nat_lt}
use Rattle.std.specs.Prelude.{if◌then◌else◌}
use Rattle.ui_types.specs.Ty.{Ty, size, depth}
use Rattle.ui_types.specs.Table.{Table, IsId, tree, max_size, max_depth}
use Rattle.ui_types.specs.Decls.{DeclTrees, under}
use Rattle.ui_infer.specs.declared.fault.InferFault.{InferFault}
use Rattle.ui_infer.specs.declared.fault.InferFault.TheVariants.{Mismatch, Twice, NotInferred}
use Rattle.ui_infer.specs.declared.fault.InferFault.TheVariants.{TooBig, TooDeep, NoMemory}

-- why type arguments aren't inferred
pub data FaultTree : Type 0 where
  mismatch : ℕ → FaultTree
  twice : ℕ → Ty → Ty → FaultTree
  not_inferred : ℕ → FaultTree
  too_big : FaultTree
  too_deep : FaultTree

abbrev pub Infers : Type 0 → Type 0
Infers A = Result A FaultTree

infixl 10 ◌>>=◌
abbrev pub ◌>>=◌ : {A B : Type 0} → Infers A → (A → Infers B) → Infers B
Ok x >>= f = f x
Err fault >>= f = Err fault

-- the type, where it is within the limits; its size is told first
unfoldable pub within : Ty → Infers Ty
within t = if nat_lt max_size (size t) then Err too_big else
    (if nat_lt max_depth (depth t) then Err too_deep else Ok t)

-- The underlying type, which is used. Go specification, "Underlying types".
unfoldable pub need : DeclTrees → Ty → Infers Ty
need ds t = within (under ds t)

-- ---- what a call answers

abbrev pub fault_of : {A : Type 0} → Infers A → Option FaultTree
fault_of (Ok x) = None
fault_of (Err fault) = Some fault

-- it is this fault, or memory ran out
abbrev pub Refuses : Table → Option FaultTree → InferFault → Type 0
Refuses table want (Mismatch k) = want ≡ Some (mismatch k)
Refuses table want (Twice k t u) = IsId table t × IsId table u
    × (want ≡ Some (twice k (tree table t) (tree table u)))
Refuses table want (NotInferred k) = want ≡ Some (not_inferred k)
Refuses table want TooBig = want ≡ Some too_big
Refuses table want TooDeep = want ≡ Some too_deep
Refuses table want NoMemory = Unit {0}

-- the answer is valid and reads as what is wanted, or it is the fault that is wanted, or memory
-- ran out
abbrev pub Gives : {A B : Type 0} → Table → (B → Type 0) → (B → A) → Infers A → Result B InferFault
    → Type 0
Gives table Valid see want (Ok x) = Valid x × (want ≡ Ok (see x))
Gives table Valid see want (Err e) = Refuses table (fault_of want) e

-- the same of a call that changes what it is given
abbrev pub Reaches : {A U : Type 0} → Table → A → Infers A → Result U InferFault → Type 0
Reaches table now want (Ok u) = want ≡ Ok now
Reaches table now want (Err e) = Refuses table (fault_of want) e
