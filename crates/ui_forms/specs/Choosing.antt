-- What code gives that stops at faults, and sets of texts. This project's own.
use Rattle.std.specs.Prelude.{◌≡◌, ℕ, List, Result, Ok, Err}
use Rattle.ui_base.specs.declared.value.Spot.{Spot}
use Rattle.ui_base.specs.declared.value.Pos.{Pos}
use Rattle.ui_base.specs.declared.fault.Fault.{Fault}
use Rattle.ui_base.specs.declared.fault.CheckFault.{CheckFault}
use Rattle.ui_base.specs.declared.fault.CheckFault.TheVariants as check
use Rattle.ui_forms.specs.Numbers.{Numbered, has}
use Rattle.ui_forms.specs.Form.{is_among}
use Rattle.ui_forms.specs.declared.fault.FormFault.{FormFault}
use Rattle.ui_forms.specs.declared.fault.FormFault.TheVariants as form
use Rattle.ui_forms.specs.declared.fault.PartFault.{PartFault}
use Rattle.ui_forms.specs.declared.fault.PartFault.TheVariants as part

-- a source is read by this definition, or memory ran out
abbrev pub GivesPart : {A : Type 0} → Result A Spot → Result A PartFault → Type 0
GivesPart v (Ok x) = v ≡ Ok x
GivesPart v (Err (part.NotTaken spot)) = v ≡ Err spot
GivesPart v (Err part.NoMemory) = Unit {0}

-- a package is read by this definition, or memory ran out
abbrev pub GivesForm : {A : Type 0} → Result A Pos → Result A FormFault → Type 0
GivesForm v (Ok x) = v ≡ Ok x
GivesForm v (Err (form.NotTaken pos)) = v ≡ Err pos
GivesForm v (Err form.NoMemory) = Unit {0}

-- a read that ends at this place, or memory ran out
abbrev pub IsNotTaken : Pos → FormFault → Type 0
IsNotTaken pos (form.NotTaken p) = p ≡ pos
IsNotTaken pos form.NoMemory = Unit {0}

-- the end of a check with this fault, or memory ran out
abbrev pub IsFault : Fault → CheckFault → Type 0
IsFault fault (check.Fault f) = f ≡ fault
IsFault fault check.NoMemory = Unit {0}

-- the map has these texts
pub record IsSet (m : Numbered) (texts : List (List ℕ)) : Type 0 where
  pub same : (text : List ℕ) → has m text ≡ is_among texts text
