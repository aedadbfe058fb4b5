-- What can be written as a linked file. This project's own limits.
use Rattle.std.specs.Prelude.{◌≡◌, ℕ, ◌^◌, ◌<◌, ◌≤◌, List, length, map, true}
use Rattle.std.specs.List.{AllByRecursion}
use Rattle.std.specs.List.Sorted.{IsStrictlySortedBy}
use Rattle.std.specs.Ordering.{nat_cmp}
use Rattle.std.specs.Cmp.Lexicographic.{slice_cmp}
use Rattle.std.specs.FinMap.{entries, len}
use Rattle.ui_base.specs.Names.{is_name}
use Rattle.ui_base.specs.Paths.{is_path}
use Rattle.ui_strpos.specs.Elements.{is_some_text}
use Rattle.ui_exports.specs.Export.{Declaration, Export}
use Rattle.ui_exports.specs.Linked.{Below, Linked}

-- a declaration and its name
pub record IsSmallEntry (entry : List ℕ × Declaration) : Type 0 where
  pub name : length entry.0 ≤ 4096
  pub file : length entry.1.file ≤ 255
  pub line : 1 ≤ entry.1.line
  pub line_fits : entry.1.line < 2 ^ 32
  pub column : 1 ≤ entry.1.column
  pub column_fits : entry.1.column < 2 ^ 32
  pub value : entry.1.value < 2 ^ 127

pub record IsSmallExport (e : Export) : Type 0 where
  pub path : length e.path ≤ 255
  pub name : length e.name ≤ 255
  pub few : len e.decls ≤ 4096
  pub entries : AllByRecursion IsSmallEntry (entries e.decls)

-- a constant's name is one, and its file has one
pub record HasName (entry : List ℕ × Declaration) : Type 0 where
  pub name : is_name entry.0 ≡ true
  pub file : is_some_text entry.1.file ≡ true

-- the texts of an export have the form that their elements ask for
pub record HasNames (e : Export) : Type 0 where
  pub path : is_path e.path ≡ true
  pub name : is_name e.name ≡ true
  pub entries : AllByRecursion HasName (entries e.decls)

-- a package below has a valid path and a fingerprint of eight bytes
pub record IsBelow (b : Below) : Type 0 where
  pub path : is_path b.path ≡ true
  pub print : length b.print ≡ 8

-- packages below, ascending by path, so each once
pub record IsListed (bs : List Below) : Type 0 where
  pub each : AllByRecursion IsBelow bs
  pub ascending : IsStrictlySortedBy (slice_cmp nat_cmp) (map (λ b. b.path) bs)

pub record IsSmall (l : Linked) : Type 0 where
  pub export : IsSmallExport l.export
  pub names : HasNames l.export
  pub below : IsListed l.below
  pub few_below : length l.below ≤ 1024
