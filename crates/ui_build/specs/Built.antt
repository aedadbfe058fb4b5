-- What holds of the files while a build goes on: the sources are as they were, and the linked files of the packages that
-- are compiled stand for what the sources declare. This project's own.
use Rattle.std.specs.Prelude.{◌≡◌, ◌≤◌, true, false, List, [], ◌∷◌, ◌++◌, Option, Some, Result, Ok, Err, bytes_eq}
use Rattle.std.specs.List.{AllByRecursion}
use Rattle.std.specs.FinMap.{get, contains_key, len}
use Rattle.ui_store.specs.Files.{Files}
use Rattle.ui_order.specs.Steps.{has}
use Rattle.ui_sources.specs.Sources.{SourceFile}
use Rattle.ui_build.specs.Plan.{Text, Refusal, Entry}
use Rattle.ui_build.specs.Package.{folder, linked_file, find, imports_in}
use Rattle.ui_build.specs.Build.{Packages, package_limit}
use Rattle.ui_build.specs.Stops.{IsFileOf}

-- the sources of each package are the same
abbrev pub SameSources : Files → Files → Type 0
SameSources files told = (path : Text) → find told (folder path) ≡ find files (folder path)

-- The linked file of a package stands for the entry, whose packages below are among these.
pub record IsBuilt (told : Files) (packages : Packages) (path : Text) (entry : Entry) : Type 0 where
  pub bytes : Text
  pub there : get told (linked_file path) ≡ Some bytes
  pub file : IsFileOf (Some told) bytes entry
  pub own : entry.export.path ≡ path
  pub below : AllByRecursion (λ b. contains_key packages b.0 ≡ true) entry.below

abbrev pub AreBuilt : Files → Packages → Type 0
AreBuilt told packages = (path : Text) (entry : Entry) → get packages path ≡ Some entry → IsBuilt told packages path entry

-- the imports of a package by its sources
abbrev pub imports_found : Text → Result (List SourceFile) Refusal → List Text
imports_found path (Ok sources) = imports_in path sources
imports_found path (Err refusal) = []

abbrev pub imports_by : Files → Text → List Text
imports_by files path = imports_found path (find files (folder path)).value

-- A package may be compiled: the sources are the files' sources, the packages before are built, its imports are among
-- them, it is not, and they are not too many.
pub record IsReady (files told : Files) (packages : Packages) (path : Text) : Type 0 where
  pub same : SameSources files told
  pub built : AreBuilt told packages
  pub imports : AllByRecursion (λ q. contains_key packages q ≡ true) (imports_by files path)
  pub apart : contains_key packages path ≡ false
  pub few : len packages ≤ package_limit

-- The rest of an order may be compiled after what stands before: no path stands twice, and its imports stand before it.
abbrev pub IsInOrder : Files → List Text → List Text → Type 0
IsInOrder files before [] = Unit {0}
IsInOrder files before (path ∷ rest) = (has bytes_eq before path ≡ false) × AllByRecursion (λ q. has bytes_eq before q ≡ true) (imports_by files path) × IsInOrder files (before ++ path ∷ []) rest

-- What stands while a build goes on: the files tell the sources, and the packages are built.
abbrev pub Stands : Files → Option Files → Packages → Type 0
Stands files now packages = (told : Files) × (now ≡ Some told) × SameSources files told × AreBuilt told packages

-- The packages of an order, and no others, are compiled.
abbrev pub Compiled : Files → List Text → Option Files → Packages → Type 0
Compiled files order now packages = Stands files now packages × ((q : Text) → contains_key packages q ≡ has bytes_eq order q)
