-- A package: its folder and files, its sources, and their form.
use Rattle.std.specs.Prelude.{ℕ, ◌^◌, Bool, ◌&&◌, not, nat_eq, List, [], ◌∷◌, ◌++◌, map, filter, Option, Some, None, Result, Ok, Err, codes}
use Rattle.std.specs.List.{ends_with}
use Rattle.ui_store.specs.Files.{Files, listing, reading}
use Rattle.ui_store.specs.declared.fault.StoreFault.{StoreFault}
use Rattle.ui_store.specs.declared.fault.StoreFault.TheVariants as fault
use Rattle.ui_store.specs.declared.store.AskKind.TheVariants as ask
use Rattle.ui_base.specs.declared.value.Pos.{Pos}
use Rattle.ui_base.specs.declared.fault.Fault.{Fault}
use Rattle.ui_sources.specs.Sources.{SourceFile, SourceTree, Trees, source_limit, trees_of}
use Rattle.ui_forms.specs.Form.{Form as SourceForm, Source as FormSource, form_of, imports_of}
use Rattle.ui_build.specs.Plan.{Text, Refusal, NoFile, Faulty, Form, Plan, done, refused, settled, ◌>>=◌, asking}

-- where a package's sources, its unit file and its linked file stand
abbrev pub folder : Text → Text
folder path = codes "src/" ++ path

abbrev pub unit_file : Text → Text
unit_file path = codes "unit/" ++ path ++ codes ".u"

abbrev pub linked_file : Text → Text
linked_file path = codes "lib/" ++ path ++ codes ".u"

abbrev pub file_in : Text → Text → Text
file_in folder name = folder ++ (codes "/" ++ name)

-- the most bytes of a unit or linked file
abbrev pub file_limit : ℕ
file_limit = 2 ^ 30

-- the names of a folder that are sources: those in `.go`, but for tests
abbrev pub is_source : Text → Bool
is_source name = ends_with nat_eq name (codes ".go") && not (ends_with nat_eq name (codes "_test.go"))

-- a call that gave nothing; a device's fault is no answer of told files
abbrev pub listed_as : Text → Result (List Text) StoreFault → Result (List Text) Refusal
listed_as name (Ok names) = Ok names
listed_as name (Err e) = Err (NoFile name)

abbrev pub read_as : Text → Result Text StoreFault → Result (Option Text) Refusal
read_as name (Ok bytes) = Ok (Some bytes)
read_as name (Err fault.TooLong) = Ok None
read_as name (Err fault.Missing) = Err (NoFile name)
read_as name (Err fault.Failed) = Err (NoFile name)
read_as name (Err fault.NoMemory) = Err (NoFile name)

abbrev pub list_folder : Files → Text → Plan (List Text)
list_folder files name = asking (ask.List, name) (listed_as name (listing files name))

-- the bytes of a file, or nothing where there are more than the limit
abbrev pub read_file : Files → Text → ℕ → Plan (Option Text)
read_file files name limit = asking (ask.Read, name) (read_as name (reading files name limit))

abbrev pub read_source : Files → Text → Plan SourceFile
read_source files name = read_file files name source_limit >>= λ bytes. done (name, bytes)

-- the files of a folder by their names, each behind those read so far
unfoldable pub read_sources : Files → Text → List SourceFile → List Text → Plan (List SourceFile)
read_sources files folder sources [] = done sources
read_sources files folder sources (name ∷ names) = read_source files (file_in folder name) >>= λ source. read_sources files folder (sources ++ source ∷ []) names

-- a folder without sources is no package
abbrev pub some_source : Text → List SourceFile → Plan (List SourceFile)
some_source folder [] = refused (NoFile folder)
some_source folder (source ∷ sources) = done (source ∷ sources)

-- the sources of a package, in the order in which the store lists them: ascending by name
abbrev pub find : Files → Text → Plan (List SourceFile)
find files folder = list_folder files folder >>= λ names. read_sources files folder [] (filter is_source names) >>= λ sources. some_source folder sources

-- a source's tree, as its form is read
abbrev pub in_form : SourceTree → FormSource
in_form s = record { name = s.name; tree = s.tree }

abbrev pub or_form : Result SourceForm Pos → Result SourceForm Refusal
or_form (Ok form) = Ok form
or_form (Err pos) = Err (Form pos)

-- the form of trees, or the place of what isn't taken
abbrev pub form_in : Text → Trees → Result SourceForm Refusal
form_in path trees = or_form (form_of path trees.size (map in_form trees.files))

abbrev pub form_by : Text → Result Trees Fault → Result SourceForm Refusal
form_by path (Ok trees) = form_in path trees
form_by path (Err fault) = Err (Faulty fault)

-- The form of a package's sources: all of them have trees, else their first fault, and the trees have a form.
unfoldable pub form_or : Text → List SourceFile → Result SourceForm Refusal
form_or path [] = Err (NoFile (folder path))
form_or path (source ∷ sources) = form_by path (trees_of path (source ∷ sources))

-- the paths that trees import, ascending; none where the sources have no trees
abbrev pub imports_by_trees : Result Trees Fault → List Text
imports_by_trees (Ok trees) = imports_of (map (λ s. s.tree) trees.files)
imports_by_trees (Err fault) = []

-- what a package's sources import, whether they have a form or not
abbrev pub imports_in : Text → List SourceFile → List Text
imports_in path sources = imports_by_trees (trees_of path sources)

-- the form of a package's sources
abbrev pub read_form : Files → Text → Plan SourceForm
read_form files path = find files (folder path) >>= λ sources. settled (form_or path sources)
