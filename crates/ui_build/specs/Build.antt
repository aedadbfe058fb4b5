-- What building a package is to do, by the sources alone. This project's own.
use Rattle.std.specs.Prelude.{ℕ, zero, suc, Bool, List, [], ◌∷◌, map, flat_map, true, false, Option, Some, None, option_map, Result, Ok, Err, nat_lt, if◌then◌else◌}
use Rattle.std.specs.Ordering.{nat_cmp}
use Rattle.std.specs.Cmp.Lexicographic.{slice_cmp}
use Rattle.std.specs.FinMap.{FinMap, empty, entries, get, insert}
use Rattle.ui_store.specs.Files.{Files}
use Rattle.ui_store.specs.declared.store.AskKind.TheVariants as ask
use Rattle.ui_exports.specs.Export.{Export}
use Rattle.ui_forms.specs.Form.{Form as SourceForm, imported}
use Rattle.ui_forms.specs.Verdict.{Environment, verdict}
use Rattle.ui_below.specs.Join.{marked}
use Rattle.ui_order.specs.Found.{Graph, Found, begun, least_unread, with_imports, found_count}
use Rattle.ui_order.specs.Order.{Arrangement, cycle, paths, arranged}
use Rattle.ui_build.specs.Plan.{Text, Refusal, NoFile, TooMany, Cycle, Entry, Plan, or_fault, done, refused, settled, ◌>>=◌, asking, writing}
use Rattle.ui_build.specs.Package.{folder, unit_file, linked_file, find, imports_in, read_form}

-- ---- discovery: the least found path that isn't read yet is found and its imports are added, till none is left

abbrev pub package_limit : ℕ
package_limit = 1024

abbrev pub within_limit : Found → Result Found Refusal
within_limit found = if nat_lt package_limit (found_count found) then Err TooMany else Ok found

-- one path was found and read
abbrev pub discover_one : Files → Found → Text → Plan Found
discover_one files found path = find files (folder path) >>= λ sources. settled (within_limit (with_imports found path (imports_in path sources)))

abbrev pub discover_next : (Found → Plan Found) → Files → Found → Option Text → Plan Found
discover_next rest files found None = done found
discover_next rest files found (Some path) = discover_one files found path >>= rest

-- in at most so many turns
unfoldable pub discover : ℕ → Files → Found → Plan Found
discover zero files found = refused TooMany
discover (suc turns) files found = discover_next (discover turns files) files found (least_unread found)

-- ---- the build order

abbrev pub order_or : Arrangement → Result (List Text) Refusal
order_or (cycle path) = Err (Cycle path)
order_or (paths order) = Ok order

abbrev pub ordered : Graph → Result (List Text) Refusal
ordered graph = order_or (arranged graph)

-- ---- compiling

-- what each package before stands for
abbrev pub Packages : Type 0
Packages = FinMap (slice_cmp nat_cmp) Entry

abbrev pub value_in : Text → Option Entry → Option ℕ
value_in name None = None
value_in name (Some entry) = option_map (λ d. d.value) (get entry.export.decls name)

-- the value of a constant of a package before
abbrev pub values : Packages → Environment
values packages = λ path name. value_in name (get packages path)

-- the paths that an import brings: its own, and those below it
abbrev pub not_direct : Text × Bool → Text × Bool
not_direct b = (b.0, false)

abbrev pub below_in : Option Entry → List (Text × Bool)
below_in None = []
below_in (Some entry) = map not_direct entry.below

abbrev pub brings : Packages → Text → List (Text × Bool)
brings packages path = (path, true) ∷ below_in (get packages path)

-- The packages below a package of this form, ascending by path: its imports, and those below them.
abbrev pub below_of : Packages → SourceForm → List (Text × Bool)
below_of packages form = entries (marked (flat_map (brings packages) (imported form)))

-- the linked files of these packages are read
unfoldable pub reads : List Text → Plan (Unit {0})
reads [] = done (tt {0})
reads (path ∷ rest) = asking (ask.Read, linked_file path) (Ok (tt {0})) >>= λ _. reads rest

-- What a package stands for: its sources are found, the linked files of its imports are read, and it is checked against
-- what the packages before stand for.
abbrev pub judged : Files → Packages → Text → Plan Entry
judged files packages path = read_form files path >>= λ form. reads (imported form) >>= λ _. settled (or_fault (verdict (values packages) form)) >>= λ export. done (record { export = export; below = below_of packages form })

-- the files of a package are written: both stand for the same
abbrev pub write_files : Text → Entry → Plan (Unit {0})
write_files path entry = writing (record { unit = unit_file path; linked = linked_file path; entry = entry })

-- a package is compiled from its own sources and what the packages before stand for
abbrev pub compile : Files → Packages → Text → Plan Entry
compile files packages path = judged files packages path >>= λ entry. write_files path entry >>= λ _. done entry

-- the packages are compiled in this order, each by those before
unfoldable pub compile_all : Files → Packages → List Text → Plan Packages
compile_all files packages [] = done packages
compile_all files packages (path ∷ rest) = compile files packages path >>= λ entry. compile_all files (insert packages path entry) rest

-- ---- the build

abbrev pub export_or : Text → Option Entry → Result Export Refusal
export_or path (Some entry) = Ok entry.export
export_or path None = Err (NoFile (linked_file path))

-- the packages that a build needs, in their order
abbrev pub build_order : Files → Text → Plan (List Text)
build_order files root = discover (suc package_limit) files (begun root) >>= λ found. settled (ordered found.read)

-- What building a package is to do: it and the packages below it are found, put in order and compiled, and its linked
-- file is read, which stands for what its sources declare.
abbrev pub build : Files → Text → Plan Export
build files root = build_order files root >>= λ order. compile_all files empty order >>= λ packages. asking (ask.Read, linked_file root) (export_or root (get packages root))
