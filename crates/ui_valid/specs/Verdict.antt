-- What the test of a file tells.
use Rattle.std.specs.Prelude.{◌≡◌, ℕ, List}
use Rattle.ui_frame.specs.Container.{Parts}
use Rattle.ui_file.specs.Verdict.{FirstFault, IsValid}
use Rattle.ui_file.specs.declared.file.File.{File}
use Rattle.ui_file.specs.declared.kind.FileKind.{FileKind}
use Rattle.ui_sections.specs.Spelled.{IsSpelled}
use Rattle.ui_sections.specs.declared.fault.ValidFault.{ValidFault}
use Rattle.ui_sections.specs.declared.fault.ValidFault.TheVariants.{Bad, NoMemory}

-- the first test that fails, unless memory ran out
abbrev pub IsFirst : FileKind → List ℕ → Parts → ValidFault → Type 0
IsFirst kind path parts NoMemory = Unit {0}
IsFirst kind path parts (Bad b) = FirstFault kind path parts b

-- a container that passed the test: as which kind of file and for which path, and the file that it spells
pub record Tested : Type 0 where
  pub kind : FileKind
  pub path : List ℕ
  pub parts : Parts
  pub file : File

-- it is such a file
pub record HasPassed (t : Tested) : Type 0 where
  pub valid : IsValid t.kind t.path t.parts t.file
  pub spelled : IsSpelled t.parts t.file
