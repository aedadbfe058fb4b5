-- Sizes and names of forms and exports. This project's own.
use Rattle.std.specs.Prelude.{◌≡◌, ℕ, ◌^◌, ◌<◌, ◌≤◌, Bool, true, not, nat_eq, List, length}
use Rattle.std.specs.List.{AllByRecursion}
use Rattle.std.specs.FinMap.{entries, len}
use Rattle.ui_base.specs.Names.{is_name}
use Rattle.ui_base.specs.Paths.{is_path}
use Rattle.ui_exports.specs.Export.{Declaration, Export}
use Rattle.ui_forms.specs.Form.{Form, imported, names}
use Rattle.ui_forms.specs.declared.part.ImportPath.{ImportPath}
use Rattle.ui_forms.specs.declared.part.ConstantSum.{ConstantSum}
use Rattle.ui_forms.specs.declared.part.Part.{Part}

abbrev pub is_some_text : List ℕ → Bool
is_some_text text = not (nat_eq (length text) 0)

-- ---- forms

-- an import of a valid path
abbrev pub HasPath : ImportPath → Type 0
HasPath i = is_path i.path ≡ true

-- a constant whose name is a name, isn't long and has a place
pub record IsSmallConstant (c : ConstantSum) : Type 0 where
  pub is_name : is_name c.name ≡ true
  pub name : length c.name ≤ 4096
  pub line : 1 ≤ c.spot.line
  pub line_fits : c.spot.line < 2 ^ 32
  pub column : 1 ≤ c.spot.col
  pub column_fits : c.spot.col < 2 ^ 32

pub record IsSmallPart (p : Part) : Type 0 where
  pub some_file : is_some_text p.file ≡ true
  pub file : length p.file ≤ 255
  pub imports : AllByRecursion HasPath p.imports
  pub constants : AllByRecursion IsSmallConstant p.constants

-- a form whose export can be written
pub record IsSmallForm (f : Form) : Type 0 where
  pub is_path : is_path f.path ≡ true
  pub is_name : is_name f.name ≡ true
  pub path : length f.path ≤ 255
  pub name : length f.name ≤ 255
  pub few : length (names f.parts) ≤ 4096
  pub parts : AllByRecursion IsSmallPart f.parts

-- each import's path is valid
abbrev pub HasPaths : Form → Type 0
HasPaths f = AllByRecursion (λ path. is_path path ≡ true) (imported f)

-- ---- exports

-- a declaration and its name
pub record IsSmallEntry (entry : List ℕ × Declaration) : Type 0 where
  pub is_name : is_name entry.0 ≡ true
  pub name : length entry.0 ≤ 4096
  pub some_file : is_some_text entry.1.file ≡ true
  pub file : length entry.1.file ≤ 255
  pub line : 1 ≤ entry.1.line
  pub line_fits : entry.1.line < 2 ^ 32
  pub column : 1 ≤ entry.1.column
  pub column_fits : entry.1.column < 2 ^ 32
  pub value : entry.1.value < 2 ^ 127

-- an export that can be written: its path is valid, its names are names, its files have names, and all fits
pub record IsSmallExport (e : Export) : Type 0 where
  pub is_path : is_path e.path ≡ true
  pub is_name : is_name e.name ≡ true
  pub path : length e.path ≤ 255
  pub name : length e.name ≤ 255
  pub few : len e.decls ≤ 4096
  pub entries : AllByRecursion IsSmallEntry (entries e.decls)
