-- The trees of a package's sources, or its first fault of size, of scanning or of parsing. All sources go through a phase
-- before any goes through the next. This project's own; of scanning and parsing the Go specification, "Source file
-- organization".
use Rattle.std.specs.Prelude.{◌≡◌, ℕ, ◌+◌, Bool, true, ◌||◌, nat_lt, List, [], ◌∷◌, map, length, Option, Some, None, option_map, unwrap_or, Result, Ok, Err, string_bytes, if◌then◌else◌}
use Rattle.std.specs.List.{AllByRecursion}
use Rattle.ui_base.specs.Paths.{is_path}
use Rattle.ui_base.specs.declared.value.Spot.{Spot}
use Rattle.ui_scan.specs.Scan.{tokens_of}
use Rattle.ui_scan.specs.Tokens.{place_at}
use Rattle.ui_scan.specs.declared.kind.Token.{Token}
use Rattle.ui_scan.specs.declared.kind.ScanFault.{ScanFault}
use Rattle.ui_scan.specs.declared.kind.ScanKind.{ScanKind}
use Rattle.ui_scan.specs.declared.kind.ScanKind.TheVariants as scan
use Rattle.ui_tree.specs.declared.decl.FileTree.{FileTree}
use Rattle.ui_tree.specs.declared.part.Specs.{Specs}
use Rattle.ui_tree.specs.Stmt.{File}
use Rattle.ui_tree.specs.StmtView.{file_view}
use Rattle.ui_base.specs.declared.fault.Fault.{Fault}
use Rattle.ui_base.specs.declared.fault.FaultKind.{FaultKind}
use Rattle.ui_base.specs.declared.fault.FaultKind.TheVariants as kind
use Rattle.ui_base.specs.declared.fault.CheckFault.{CheckFault}
use Rattle.ui_base.specs.declared.fault.CheckFault.TheVariants as check
use Rattle.ui_pexpr.specs.declared.fault.ParseFault.{ParseFault}
use Rattle.ui_pexpr.specs.declared.fault.ParseFault.TheVariants as parse
use Rattle.ui_pdecl.specs.FileResult.{all_specs, file_result}
use Rattle.ui_base.specs.Steps.{and_then, each}
use Rattle.ui_sources.specs.declared.source.SourceFile.{SourceFile as InMemory}
use Rattle.ui_sources.specs.declared.source.Trees.{Trees as TreesInMemory}

-- a source: its store name, and its bytes, or nothing where there are more than the limit
abbrev pub SourceFile : Type 0
SourceFile = List ℕ × Option (List ℕ)

-- a source's store name, and its tree
pub record SourceTree : Type 0 where
  pub name : List ℕ
  pub tree : File

abbrev pub source_tree : FileTree → SourceTree
source_tree f = record { name = f.file; tree = file_view f }

-- the bytes of all sources together, and their trees in the sources' order
pub record Trees : Type 0 where
  pub size : ℕ
  pub files : List SourceTree

-- the most bytes of a source
abbrev pub source_limit : ℕ
source_limit = 1048576

-- the most sources of a package
abbrev pub count_limit : ℕ
count_limit = 256

-- the most bytes of a package's sources together
abbrev pub package_limit : ℕ
package_limit = 16777216

abbrev pub bytes_of : SourceFile → List ℕ
bytes_of s = unwrap_or s.1 []

-- ---- faults

-- a fault at a place in the source of this name
abbrev pub fault_in : FaultKind → List ℕ → Spot → Fault
fault_in kind file s = record { kind = kind; pos = record { file = file; line = s.line; col = s.col }; name = [] }

abbrev pub front : Spot
front = record { line = 1; col = 1 }

-- the line and the column of an offset
abbrev pub spot_at : List ℕ → ℕ → Spot
spot_at bytes at = record { line = (place_at bytes at).line; col = (place_at bytes at).col }

-- a fault at an offset of a source
abbrev pub fault_at : FaultKind → SourceFile → ℕ → Fault
fault_at kind s at = fault_in kind s.0 (spot_at (bytes_of s) at)

-- ---- size

abbrev pub is_long : Option (List ℕ) → Bool
is_long None = true
is_long (Some bytes) = nat_lt source_limit (length bytes)

-- a source that isn't too long
abbrev pub measured : SourceFile → Result SourceFile Fault
measured s = if is_long s.1 then Err (fault_in kind.SourceTooLong s.0 front) else Ok s

-- the bytes of sources together
abbrev pub total : List SourceFile → ℕ
total [] = 0
total (s ∷ ss) = length (bytes_of s) + total ss

-- more sources, or more bytes together, than a package may have
abbrev pub is_large : List SourceFile → Bool
is_large sources = nat_lt count_limit (length sources) || nat_lt package_limit (total sources)

abbrev pub first_name : List SourceFile → List ℕ
first_name [] = []
first_name (s ∷ ss) = s.0

abbrev pub package_size : List SourceFile → Result ℕ Fault
package_size sources = if is_large sources then Err (fault_in kind.PackageTooLarge (first_name sources) front) else Ok (total sources)

-- the bytes of a package's sources together, where none of them is too long and the package isn't too large
abbrev pub size_of : List SourceFile → Result ℕ Fault
size_of sources = and_then package_size (each measured sources)

-- ---- scan

abbrev pub scan_kind : ScanKind → FaultKind
scan_kind scan.BadUtf8 = kind.BadUtf8
scan_kind scan.BadByte = kind.BadByte
scan_kind scan.OpenComment = kind.OpenComment
scan_kind scan.BadNumber = kind.BadNumber
scan_kind scan.FloatLiteral = kind.FloatLiteral
scan_kind scan.ImaginaryLiteral = kind.ImaginaryLiteral
scan_kind scan.ConstTooBig = kind.ConstTooBig
scan_kind scan.BadEscape = kind.BadEscape
scan_kind scan.BadRune = kind.BadRune
scan_kind scan.NewlineInString = kind.NewlineInString
scan_kind scan.OpenString = kind.OpenString

abbrev pub scanned : SourceFile → Result (List Token) ScanFault → Result (List Token) Fault
scanned s (Ok tokens) = Ok tokens
scanned s (Err fault) = Err (fault_at (scan_kind fault.kind) s fault.at)

-- a source's tokens
abbrev pub tokens_in : SourceFile → Result (List Token) Fault
tokens_in s = scanned s (tokens_of (bytes_of s))

-- ---- parse

-- want of memory is no file's result
abbrev pub parse_fault : SourceFile → ParseFault → Fault
parse_fault s (parse.Unexpected at) = fault_at kind.Unexpected s at
parse_fault s (parse.TooDeep at) = fault_at kind.TooDeep s at
parse_fault s (parse.Outside at form) = fault_at kind.Outside s at
parse_fault s (parse.BadImportPath at) = fault_at kind.BadImportPath s at
parse_fault s parse.NoMemory = fault_in kind.Unexpected s.0 front

abbrev pub parsed : SourceFile → Result File ParseFault → Result SourceTree Fault
parsed s (Ok file) = Ok (record { name = s.0; tree = file })
parsed s (Err fault) = Err (parse_fault s fault)

-- the tree of a source of the package of this path
abbrev pub tree_in : List ℕ → SourceFile → Result SourceTree Fault
tree_in own s = and_then (λ tokens. parsed s (file_result own (bytes_of s) tokens)) (tokens_in s)

-- ---- all sources

-- The trees of a package's sources, which stand in ascending order of name; or the first fault. First the size is
-- decided, then the tokens of all sources are read, and then their trees.
unfoldable pub trees_of : List ℕ → List SourceFile → Result Trees Fault
trees_of own sources = and_then (λ size. and_then (λ tokens. and_then (λ files. Ok (record { size = size; files = files })) (each (tree_in own) sources)) (each tokens_in sources)) (size_of sources)

-- ---- what the code reads and gives

-- a source as it lies in memory
abbrev pub source_of : InMemory → SourceFile
source_of s = (string_bytes s.name, option_map (λ v. v.items) s.bytes)

-- a reading that gives this, or want of memory
abbrev pub GivesTrees : Result Trees Fault → Result TreesInMemory CheckFault → Type 0
GivesTrees r (Ok t) = r ≡ Ok (record { size = t.size; files = map source_tree t.files.items })
GivesTrees r (Err (check.Fault f)) = r ≡ Err f
GivesTrees r (Err check.NoMemory) = Unit {0}

-- ---- the paths of imports

abbrev pub specs_of : {S : Type 0} → Specs S → List S
specs_of specs = all_specs specs

abbrev pub HasValidPaths : File → Type 0
HasValidPaths f = AllByRecursion (λ i. AllByRecursion (λ s. is_path s.path.text ≡ true) (specs_of i.specs)) f.imports

-- the import paths of trees that are given are valid
abbrev pub PathsAreValid : Type 0
PathsAreValid = (own : List ℕ) (sources : List SourceFile) (t : Trees) → trees_of own sources ≡ Ok t → AllByRecursion (λ s. HasValidPaths s.tree) t.files
