-- Which files are in the grammar of a kind; of any other bytes the first test that fails, with its place. This project's own.
use Rattle.std.specs.Prelude.{◌≡◌, ◌⊎◌, ℕ, ◌<◌, List, Ok, Err}
use Rattle.ui_frame.specs.Container.{Parts}
use Rattle.ui_frame.specs.Sections.{number_of}
use Rattle.ui_frame.specs.declared.section.Section.{Section}
use Rattle.ui_strpos.specs.declared.fault.Cause.{Cause}
use Rattle.ui_strpos.specs.declared.fault.Cause.TheVariants as causes
use Rattle.ui_file.specs.Files.{file_in, bad}
use Rattle.ui_file.specs.Rules.{Rule, twice, derived_order, bad_index, wrong_count, named_under, type_limit, stub_left, stray, wrong_path, Keeps, count_in}
use Rattle.ui_file.specs.declared.file.File.{File}
use Rattle.ui_file.specs.declared.bad.BadFile.{BadFile}
use Rattle.ui_file.specs.declared.kind.FileKind.{FileKind}

-- the order of the rules
abbrev pub rule_number : Rule → ℕ
rule_number twice = 0
rule_number derived_order = 1
rule_number bad_index = 2
rule_number wrong_count = 3
rule_number named_under = 4
rule_number type_limit = 5
rule_number stub_left = 6
rule_number stray = 7
rule_number wrong_path = 8

abbrev pub cause_of : Rule → Cause
cause_of twice = causes.Twice
cause_of derived_order = causes.DerivedOrder
cause_of bad_index = causes.BadIndex
cause_of wrong_count = causes.WrongCount
cause_of named_under = causes.NamedUnder
cause_of type_limit = causes.TypeLimit
cause_of stub_left = causes.StubLeft
cause_of stray = causes.Stray
cause_of wrong_path = causes.WrongPath

-- a test of a rule at an element
pub record Test : Type 0 where
  pub rule : Rule
  pub section : Section
  pub element : ℕ

-- one test is made before another: rule by rule, and each over all elements in their order
abbrev pub IsBefore : Test → Test → Type 0
IsBefore a b =
    (rule_number a.rule < rule_number b.rule)
    ⊎ ((a.rule ≡ b.rule) × ((number_of a.section < number_of b.section) ⊎ ((a.section ≡ b.section) × (a.element < b.element))))

-- each element keeps each rule
abbrev pub Obeys : FileKind → List ℕ → File → Type 0
Obeys kind path x = (r : Rule) (s : Section) (k : ℕ) → k < count_in x s → Keeps kind path x r s k

-- the first test of a rule that fails
pub record FirstBroken (kind : FileKind) (path : List ℕ) (x : File) (b : Test) : Type 0 where
  pub there : b.element < count_in x b.section
  pub here : Keeps kind path x b.rule b.section b.element → ⊥
  pub before : (a : Test) → a.element < count_in x a.section → IsBefore a b → Keeps kind path x a.rule a.section a.element

-- the parts are a file of this kind, for a package with this path
abbrev pub IsValid : FileKind → List ℕ → Parts → File → Type 0
IsValid kind path parts x = (file_in parts ≡ Ok x) × Obeys kind path x

-- The first test that fails. Those of the elements, from the left, come before the rules, whose place is the element's
-- first byte.
pub data FirstFault (kind : FileKind) (path : List ℕ) (parts : Parts) : BadFile → Type 0 where
  in_element : {b : BadFile} → file_in parts ≡ Err b → FirstFault kind path parts b
  in_rule : (x : File) (b : Test) → file_in parts ≡ Ok x → FirstBroken kind path x b → FirstFault kind path parts (bad (number_of b.section) b.element 0 (cause_of b.rule))
