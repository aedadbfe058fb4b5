-- What the code's answers stand for.
use Rattle.std.specs.Prelude.{◌≡◌, Ok, Err, Result}
use Rattle.ui_base.specs.declared.name.Name.{Name}
use Rattle.ui_base.specs.declared.fault.CheckFault.{CheckFault}
use Rattle.ui_types.specs.declared.id.TypeId.{TypeId}
use Rattle.ui_types.specs.Ty.{Ty}
use Rattle.ui_types.specs.Table.{Table, IsId, tree}
use Rattle.ui_scopes.specs.Scopes.{World}
use Rattle.ui_scopes.specs.Steps.{Checks, Gives, Refuses, fault_of}
use Rattle.ui_type_names.specs.declared.found.Found.{Found}
use Rattle.ui_type_names.specs.declared.found.Found.TheVariants.{Known, Declared}

abbrev pub GivesType : Table → Checks Ty → Result TypeId CheckFault → Type 0
GivesType table = Gives (IsId table) (tree table)

-- What is found of a name before the environment is asked: in every one it is this type, or what
-- the declaration of this name makes of it, or this fault.
abbrev pub Finds : Table → (World → Checks Ty) → (World → Name → Checks Ty) → Result Found CheckFault
    → Type 0
Finds table want object (Ok (Known t)) = IsId table t × ((w : World) → want w ≡ Ok (tree table t))
Finds table want object (Ok (Declared n)) = (w : World) → want w ≡ object w n
Finds table want object (Err e) = (w : World) → Refuses (fault_of (want w)) e
