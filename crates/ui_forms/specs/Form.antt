-- The form of the sources of packages of constants, by their trees. This project's own; a part of the language of the
-- Go specification, "Declarations and scope", "Import declarations" and "Constant declarations".
use Rattle.std.specs.Prelude.{ℕ, ◌+◌, Bool, true, false, not, ◌&&◌, nat_le, if◌then◌else◌, List, [], ◌∷◌, map, length, Option, Some, None, Result, Ok, Err, bytes_eq}
use Rattle.std.specs.List.{flat_map, list_any, list_all}
use Rattle.std.specs.FinMap.{empty, insert, keys}
use Rattle.ui_base.specs.declared.value.Spot.{Spot}
use Rattle.ui_base.specs.declared.value.Pos.{Pos}
use Rattle.ui_base.specs.Paths.{is_path}
use Rattle.ui_tree.specs.declared.part.Placed.{Placed}
use Rattle.ui_tree.specs.declared.part.Specs.{Specs}
use Rattle.ui_tree.specs.declared.part.Specs.TheVariants.{One, Grouped}
use Rattle.ui_tree.specs.declared.decl.FileTree.{FileTree}
use Rattle.ui_tree.specs.Tree.{Tree, trees_end, tree_and, MaybeType, no_type, given_type}
use Rattle.ui_tree.specs.Stmt.{MaybeTrees, no_trees, given_trees, ValueGroup, constants, variables, Imported, Import, Decl, common_decl, type_decl, method_decl, func_decl, File}
use Rattle.ui_tree.specs.StmtView.{file_view}
use Rattle.ui_forms.specs.Words.{is_constant_name, is_package_name, last_segment}
use Rattle.ui_forms.specs.Numbers.{Numbered}
use Rattle.ui_tree.specs.Spots.{type_spot}
use Rattle.ui_forms.specs.Spots.{is_place}
use Rattle.ui_base.specs.Steps.{and_then, each}
use Rattle.ui_forms.specs.Sums.{Known, nothing, with_name, terms_of}
use Rattle.ui_forms.specs.declared.part.Term.{Term}
use Rattle.ui_forms.specs.declared.part.ImportPath.{ImportPath}
use Rattle.ui_forms.specs.declared.part.ConstantSum.{ConstantSum}
use Rattle.ui_forms.specs.declared.part.Part.{Part}

-- a source: its store name, and its tree
pub record Source : Type 0 where
  pub name : List ℕ
  pub tree : File

abbrev pub source_of : FileTree → Source
source_of f = record { name = f.file; tree = file_view f }

-- a package of this form: its path, its name, and what its sources hold, in their order
pub record Form : Type 0 where
  pub path : List ℕ
  pub name : List ℕ
  pub parts : List Part

-- ---- the paths of imports

-- texts, each once, beside those that are there
abbrev pub set_with : Numbered → List (List ℕ) → Numbered
set_with m [] = m
set_with m (text ∷ texts) = set_with (insert m text 0) texts

-- the texts, ascending by bytes, each once
abbrev pub ascending : List (List ℕ) → List (List ℕ)
ascending texts = keys (set_with empty texts)

abbrev pub spec_paths : Specs Imported → List (List ℕ)
spec_paths (One i) = i.path.text ∷ []
spec_paths (Grouped is) = map (λ i. i.path.text) is

abbrev pub import_paths : List Import → List (List ℕ)
import_paths is = flat_map (λ i. spec_paths i.specs) is

abbrev pub file_paths : List File → List (List ℕ)
file_paths files = flat_map (λ f. import_paths f.imports) files

-- the paths that files import, in whatever form, ascending by bytes
unfoldable pub imports_of : List File → List (List ℕ)
imports_of files = ascending (file_paths files)

abbrev pub part_paths : List Part → List (List ℕ)
part_paths parts = flat_map (λ p. map (λ i. i.path) p.imports) parts

-- the paths that a form imports, ascending by bytes
unfoldable pub imported : Form → List (List ℕ)
imported f = ascending (part_paths f.parts)

-- ---- imports

-- a valid path, but the package's own
abbrev pub is_import_path : List ℕ → List ℕ → Bool
is_import_path own path = is_path path && not (bytes_eq path own)

abbrev pub import_of_path : List ℕ → Placed → Result ImportPath Spot
import_of_path own path = if is_import_path own path.text then Ok (record { path = path.text; spot = path.spot }) else Err path.spot

-- an import without a name of its own
abbrev pub import_of_spec : List ℕ → Spot → Option Placed → Placed → Result ImportPath Spot
import_of_spec own s None path = import_of_path own path
import_of_spec own s (Some n) path = Err s

abbrev pub import_of_specs : List ℕ → Spot → Specs Imported → Result ImportPath Spot
import_of_specs own s (One i) = import_of_spec own s i.name i.path
import_of_specs own s (Grouped is) = Err s

-- `import "PATH"`; else a fault at the word, or at a path that isn't to be imported
abbrev pub import_of : List ℕ → Import → Result ImportPath Spot
import_of own i = import_of_specs own i.spot i.specs

abbrev pub segments : List ImportPath → List (List ℕ)
segments imports = map (λ i. last_segment i.path) imports

abbrev pub is_among : List (List ℕ) → Known
is_among texts text = list_any (λ other. bytes_eq text other) texts

-- ---- constants

-- The name of a constant. That it isn't long and has a place follows where the source isn't long.
abbrev pub is_declared_name : Placed → Bool
is_declared_name n = is_constant_name n.text && nat_le (length n.text) 4096 && is_place n.spot

abbrev pub one_name : List Placed → Option Placed
one_name [] = None
one_name (n ∷ []) = if is_declared_name n then Some n else None
one_name (n ∷ m ∷ ns) = None

abbrev pub one_tree : MaybeTrees → Option Tree
one_tree no_trees = None
one_tree (given_trees trees_end) = None
one_tree (given_trees (tree_and e trees_end)) = Some e
one_tree (given_trees (tree_and e (tree_and e' es))) = None

abbrev pub declared_as : Placed → Result (List Term) Spot → Result ConstantSum Spot
declared_as n terms = and_then (λ ts. Ok (record { name = n.text; spot = n.spot; terms = ts })) terms

-- one name, no type, and one expression, which is a sum; else a fault at the word, at the type, or in the expression
abbrev pub constant_of_parts : Known → Known → Spot → Option Placed → MaybeType → Option Tree → Result ConstantSum Spot
constant_of_parts imports own s None type e = Err s
constant_of_parts imports own s (Some n) type None = Err s
constant_of_parts imports own s (Some n) (given_type t) (Some e) = Err (type_spot t)
constant_of_parts imports own s (Some n) no_type (Some e) = declared_as n (terms_of imports own e)

abbrev pub constant_of_group : Known → Known → Spot → ValueGroup → Result ConstantSum Spot
constant_of_group imports own s v = constant_of_parts imports own s (one_name v.names) v.of (one_tree v.values)

abbrev pub constant_of_specs : Known → Known → Spot → Specs ValueGroup → Result ConstantSum Spot
constant_of_specs imports own s (One v) = constant_of_group imports own s v
constant_of_specs imports own s (Grouped vs) = Err s

-- `const NAME = SUM`; else a fault
abbrev pub constant_of : Known → Known → Decl → Result ConstantSum Spot
constant_of imports own (common_decl (constants s vs)) = constant_of_specs imports own s vs
constant_of imports own (common_decl (variables s vs)) = Err s
constant_of imports own (type_decl s ts) = Err s
constant_of imports own (method_decl s r n ps t b) = Err s
constant_of imports own (func_decl s n ps gs t b) = Err s

-- constants in their order, each with the names before it
abbrev pub constants_of : Known → Known → List Decl → Result (List ConstantSum) Spot
constants_of imports own [] = Ok []
constants_of imports own (d ∷ ds) = and_then (λ c. and_then (λ cs. Ok (c ∷ cs)) (constants_of imports (with_name c.name own) ds)) (constant_of imports own d)

-- ---- sources

abbrev pub part_with : List ℕ → List ImportPath → Result (List ConstantSum) Spot → Result Part Spot
part_with file imports sums = and_then (λ cs. Ok (record { file = file; imports = imports; constants = cs })) sums

-- what a source holds: its imports, and then its constants
abbrev pub part_of : List ℕ → Source → Result Part Spot
part_of own source = and_then (λ imports. part_with source.name imports (constants_of (is_among (segments imports)) nothing source.tree.decls)) (each (import_of own) source.tree.imports)

abbrev pub at_file : {A : Type 0} → List ℕ → Result A Spot → Result A Pos
at_file file (Ok x) = Ok x
at_file file (Err s) = Err (record { file = file; line = s.line; col = s.col })

abbrev pub parts_of : List ℕ → List Source → Result (List Part) Pos
parts_of own sources = each (λ source. at_file source.name (part_of own source)) sources

-- ---- the package

-- the name of a source is no longer than 255 bytes, and its clause names the package
abbrev pub is_source : List ℕ → Source → Bool
is_source path source = nat_le 1 (length source.name) && nat_le (length source.name) 255 && is_package_name path source.tree.package_name.text

abbrev pub decl_count : List Source → ℕ
decl_count [] = 0
decl_count (source ∷ sources) = length source.tree.decls + decl_count sources

-- that they have no more declarations follows where their size is no more
abbrev pub has_few_decls : List Source → Bool
has_few_decls sources = nat_le (decl_count sources) 4096

-- sources of a package of this path, of this size together
abbrev pub is_package : List ℕ → ℕ → List Source → Bool
is_package path size sources = is_path path && nat_le size 4096 && has_few_decls sources && list_all (is_source path) sources

-- the names of all constants
abbrev pub names : List Part → List (List ℕ)
names parts = flat_map (λ p. map (λ c. c.name) p.constants) parts

-- no text is known before it
abbrev pub are_new : Known → List (List ℕ) → Bool
are_new known [] = true
are_new known (text ∷ texts) = not (known text) && are_new (with_name text known) texts

-- the imports of a source are known by names that differ, and that no constant has
abbrev pub are_apart : Known → List (List ℕ) → Bool
are_apart names texts = are_new nothing texts && list_all (λ text. not (names text)) texts

abbrev pub are_distinct : List Part → Bool
are_distinct parts = are_new nothing (names parts) && list_all (λ p. are_apart (is_among (names parts)) (segments p.imports)) parts

-- the front of the first source
abbrev pub front : List Source → Pos
front [] = record { file = []; line = 1; col = 1 }
front (source ∷ sources) = record { file = source.name; line = 1; col = 1 }

abbrev pub form_of_parts : List ℕ → Pos → List Part → Result Form Pos
form_of_parts path front parts = if are_distinct parts then Ok (record { path = path; name = last_segment path; parts = parts }) else Err front

abbrev pub has_sources : List Source → Bool
has_sources [] = false
has_sources (source ∷ sources) = true

-- The form of a package by its path, the size of its sources together and these in ascending order of their names; or
-- the place of the first fault: at the front where the sources aren't those of such a package; in the first
-- declaration that isn't taken; at the front where names are repeated.
unfoldable pub form_of : List ℕ → ℕ → List Source → Result Form Pos
form_of path size sources = if has_sources sources && is_package path size sources then and_then (form_of_parts path (front sources)) (parts_of path sources) else Err (front sources)
