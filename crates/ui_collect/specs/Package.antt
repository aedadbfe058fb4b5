-- The names that a package declares and imports: no name twice in one scope, and the names that
-- functions alone may have. Go specification, "Declarations and scope", "Package clause", "Import
-- declarations", "Package initialization", "Program execution". Files go in their order, and each
-- from left to right; a name that clashes with an earlier one is the one that is refused. What
-- isn't taken yet isn't looked into: methods, type parameters, bodies.
use Rattle.std.specs.Prelude.{ℕ, Bool, true, false, not, ◌&&◌, ◌||◌, List, [], ◌∷◌, ◌++◌, Option}
use Rattle.std.specs.Prelude.{Some, None, Ok, if◌then◌else◌, bytes_eq}
use Rattle.std.specs.Map.{lookup}
use Rattle.ui_base.specs.declared.fault.FaultKind.TheVariants as fault
use Rattle.ui_types.specs.Decls.{Packages}
use Rattle.ui_tree.specs.declared.part.Placed.{Placed}
use Rattle.ui_tree.specs.declared.part.Specs.{Specs}
use Rattle.ui_tree.specs.declared.part.Specs.TheVariants.{One, Grouped}
use Rattle.ui_tree.specs.declared.decl.FileTree.{FileTree}
use Rattle.ui_tree.specs.Tree as tree
use Rattle.ui_tree.specs.Tree.{Groups, MaybeType}
use Rattle.ui_tree.specs.Stmt as stmt
use Rattle.ui_tree.specs.Stmt.{ValueGroup, Imported, Import, TypeGroup, MaybeGroups, Decl, File}
use Rattle.ui_tree.specs.StmtView.{file_view}
use Rattle.ui_scopes.specs.Steps.{Checks, ◌>>=◌}
use Rattle.ui_collect.specs.Names.{is_among, with_name, is_blank, is_init, is_function_name}
use Rattle.ui_collect.specs.Names.{refuse_name, steps}
use Rattle.ui_collect.specs.Lists.{type_rule, sig_rule, maybe_rule}
use Rattle.ui_collect.specs.declared.before.Before.{Before}

-- a source: its store name, and its tree
pub record SourceTree : Type 0 where
  pub name : List ℕ
  pub tree : File

abbrev pub source_of : FileTree → SourceTree
source_of f = record { name = f.file; tree = file_view f }

-- a file, and the package that it is of: the package's name, and the names of the packages that it
-- imports
pub record Place : Type 0 where
  pub file : List ℕ
  pub home : List ℕ
  pub names : Packages

-- ---- package clauses

-- "Package clause": all files have the same package name, which isn't blank
abbrev pub clause_rule : Place → Placed → Checks (Unit {0})
clause_rule at p = if is_blank p.text || not (bytes_eq p.text at.home) then refuse_name at.file
    p.spot fault.PackageName [] else Ok tt

-- ---- imports

-- the name of the package of a path; the packages that are imported are there
abbrev pub name_or_none : Option (List ℕ) → List ℕ
name_or_none None = []
name_or_none (Some n) = n

abbrev pub package_name : Packages → List ℕ → List ℕ
package_name names path = name_or_none (lookup (bytes_eq path) names)

-- an import's name: the one that is given, else that of the package, at the path's place
abbrev pub known_as : Packages → Option Placed → Placed → Placed
known_as names None path = record { spot = path.spot; text = package_name names path.text }
known_as names (Some n) path = n

abbrev pub imported : Before → List ℕ → Before
imported b n = record b { own = b.own ++ n ∷ []; imports = with_name b.imports n }

-- "Declarations and scope": an import's name is one of its file, and none that the package declares
abbrev pub imported_rule : Place → Before → Placed → Checks Before
imported_rule at b p =
    if is_blank p.text then Ok b
    else (if is_among b.own p.text || is_among b.names p.text
    then refuse_name at.file p.spot fault.Redeclared p.text
    else (if is_function_name at.home p.text then refuse_name at.file p.spot fault.MainShape []
    else Ok (imported b p.text)))

abbrev pub spec_rule : Place → Before → Imported → Checks Before
spec_rule at b i = imported_rule at b (known_as at.names i.name i.path)

-- one specification, or several in parentheses
abbrev pub specs_rule : {A : Type 0} → (Before → A → Checks Before) → Before → Specs A → Checks
    Before
specs_rule rule b (One s) = rule b s
specs_rule rule b (Grouped ss) = steps rule b ss

abbrev pub import_rule : Place → Before → Import → Checks Before
import_rule at b i = specs_rule (spec_rule at) b i.specs

-- ---- declarations

abbrev pub declared : Before → List ℕ → Before
declared b n = if is_init n then b else record b { names = b.names ++ n ∷ [] }

-- a name of the package, and whether it is that of a function without parameters and results
abbrev pub name_rule : Place → Bool → Before → Placed → Checks Before
name_rule at plain b p =
    if is_blank p.text then Ok b
    else (if is_among b.names p.text || is_among b.imports p.text
    then refuse_name at.file p.spot fault.Redeclared p.text
    else (if is_function_name at.home p.text && not plain
    then refuse_name at.file p.spot fault.MainShape []
    else Ok (declared b p.text)))

-- constants or variables: the names, and then the type
abbrev pub value_rule : Place → Before → ValueGroup → Checks Before
value_rule at b v = steps (name_rule at false) b v.names >>= λ now. maybe_rule at.file v.of >>= λ
    _. Ok now

abbrev pub type_spec_rule : Place → Before → TypeGroup → Checks Before
type_spec_rule at b t = name_rule at false b t.name >>= λ now. type_rule at.file t.of >>= λ _. Ok
    now

abbrev pub is_plain : MaybeGroups → Groups → MaybeType → Bool
is_plain stmt.no_groups tree.groups_end tree.no_type = true
is_plain stmt.no_groups tree.groups_end (tree.given_type t) = false
is_plain stmt.no_groups (tree.group_and ns t ps) r = false
is_plain (stmt.given_groups ts) ps r = false

abbrev pub func_rule : Place → Before → Placed → MaybeGroups → Groups → MaybeType → Checks Before
func_rule at b n ts ps r = name_rule at (is_plain ts ps r) b n >>= λ now. sig_rule at.file ps r
    >>= λ _. Ok now

abbrev pub decl_rule : Place → Before → Decl → Checks Before
decl_rule at b (stmt.common_decl (stmt.constants s vs)) = specs_rule (value_rule at) b vs
decl_rule at b (stmt.common_decl (stmt.variables s vs)) = specs_rule (value_rule at) b vs
decl_rule at b (stmt.type_decl s ts) = specs_rule (type_spec_rule at) b ts
decl_rule at b (stmt.method_decl s x n ps r body) = Ok b
decl_rule at b (stmt.func_decl s n ts ps r body) = func_rule at b n ts ps r

-- ---- files

abbrev pub opened : Before → Before
opened b = record b { own = [] }

abbrev pub tree_rule : Place → Before → File → Checks Before
tree_rule at b f = clause_rule at f.package_name >>= λ _. steps (import_rule at) (opened b)
    f.imports >>= λ now. steps (decl_rule at) now f.decls

abbrev pub place : List ℕ → Packages → SourceTree → Place
place home names s = record { file = s.name; home = home; names = names }

abbrev pub file_rule : List ℕ → Packages → Before → SourceTree → Checks Before
file_rule home names b s = tree_rule (place home names s) b s.tree

-- the name that the first file gives
abbrev pub package_of : List SourceTree → List ℕ
package_of [] = []
package_of (s ∷ ss) = s.tree.package_name.text

abbrev pub nothing : Before
nothing = record { names = []; imports = []; own = [] }

-- the names of the files' declarations and imports, or the first fault
unfoldable pub names_of : Packages → List SourceTree → Checks Before
names_of names files = steps (file_rule (package_of files) names) nothing files
