-- What reading a file tells: the value, or the first test that fails, unless memory ran out.
use Rattle.std.specs.Prelude.{◌≡◌, ℕ, List, ◌++◌, Result, Ok, Err}
use Rattle.ui_strpos.specs.declared.fault.ElementFault.{ElementFault}
use Rattle.ui_strpos.specs.declared.fault.ElementFault.TheVariants as faults
use Rattle.ui_file.specs.Files.{bad}
use Rattle.ui_file.specs.declared.bad.BadFile.{BadFile}
use Rattle.ui_sections.specs.declared.fault.ValidFault.{ValidFault}
use Rattle.ui_sections.specs.declared.fault.ValidFault.TheVariants.{Bad, NoMemory}

abbrev pub FailsAs : {Y : Type 0} → ValidFault → Result Y BadFile → Type 0
FailsAs NoMemory read = Unit {0}
FailsAs (Bad b) read = read ≡ Err b

-- a call gave what reading gives, unless memory ran out
abbrev pub Tells : {X Y : Type 0} → (X → Y) → Result X ValidFault → Result Y BadFile → Type 0
Tells view (Ok x) read = read ≡ Ok (view x)
Tells view (Err e) read = FailsAs e read

-- an element's fault, at its place in the file
abbrev pub at_place : ℕ → ℕ → ElementFault → ValidFault
at_place section element faults.NoMemory = NoMemory
at_place section element (faults.Bad offset cause) = Bad (bad section element offset cause)

abbrev pub with_front : {A : Type 0} → List A → Result (List A) BadFile → Result (List A) BadFile
with_front front (Ok xs) = Ok (front ++ xs)
with_front front (Err e) = Err e
