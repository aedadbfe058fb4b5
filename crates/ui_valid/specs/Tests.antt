-- The rules over a whole file, one after another.
use Rattle.std.specs.Prelude.{◌≡◌, ℕ, ◌<◌, ◌≤◌, List, length, Option, Some, None, option_map}
use Rattle.ui_frame.specs.Container.{Parts, section}
use Rattle.ui_frame.specs.Sections.{number_of}
use Rattle.ui_strpos.specs.declared.fault.Cause.{Cause}
use Rattle.ui_file.specs.Files.{bad}
use Rattle.ui_file.specs.Rules.{Rule, Keeps, count_in}
use Rattle.ui_file.specs.Verdict.{rule_number, cause_of}
use Rattle.ui_file.specs.declared.bad.BadFile.{BadFile}
use Rattle.ui_file.specs.declared.file.File.{File}
use Rattle.ui_file.specs.declared.kind.FileKind.{FileKind}
use Rattle.ui_file_rules.specs.First.{Gives, FirstPlace}
use Rattle.ui_file_rules.specs.declared.rule.Place.{Place}

-- an element that there is
abbrev pub IsPlace : Parts → Place → Type 0
IsPlace parts p = p.element < length (section p.section parts)

abbrev pub placed : Cause → Option Place → Option BadFile
placed cause None = None
placed cause (Some p) = Some (bad (number_of p.section) p.element 0 cause)

-- each element keeps the rules with numbers from one to below another
abbrev pub AreKept : FileKind → List ℕ → File → ℕ → ℕ → Type 0
AreKept kind path x from to = (r : Rule) → from ≤ rule_number r → rule_number r < to
    → Gives (Keeps kind path x r) (count_in x) None

-- this is the first test that fails, of a rule from a number on
pub record IsBroken (kind : FileKind) (path : List ℕ) (x : File) (from to : ℕ)
    (b : BadFile) : Type 0 where
  pub rule : Rule
  pub place : Place
  pub least : from ≤ rule_number rule
  pub below : rule_number rule < to
  pub earlier : AreKept kind path x from (rule_number rule)
  pub here : FirstPlace (Keeps kind path x rule) (count_in x) place
  pub is : b ≡ bad (number_of place.section) place.element 0 (cause_of rule)

-- what testing the rules with these numbers tells
abbrev pub Tested : FileKind → List ℕ → File → ℕ → ℕ → Option BadFile → Type 0
Tested kind path x from to None = AreKept kind path x from to
Tested kind path x from to (Some b) = IsBroken kind path x from to b
