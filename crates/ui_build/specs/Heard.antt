-- What a step heard of the store from its first call to its last, and how it ended by that, over every store that tells
-- what its calls gave. This project's own.
use Rattle.std.specs.Prelude.{◌≡◌, ℕ, zero, suc, List, [], ◌∷◌, ◌++◌, map, filter, Option, Some, None, Result, Ok, Err, IfErr, ⊤}
use Rattle.ui_store.specs.Told.{more}
use Rattle.ui_store.specs.Calls.{Hearing, Hearings}
use Rattle.ui_store.specs.Views.{StoreView}
use Rattle.ui_store.specs.declared.store.AskKind.TheVariants as ask
use Rattle.ui_store.specs.declared.store.Given.{Given}
use Rattle.ui_store.specs.declared.store.Given.TheVariants as given
use Rattle.ui_exports.specs.Export.{Export}
use Rattle.ui_exports.specs.Linked.{Linked}
use Rattle.ui_forms.specs.Form.{Form as SourceForm, imported}
use Rattle.ui_sources.specs.Sources.{SourceFile}
use Rattle.ui_order.specs.Found.{Found, begun, least_unread, with_imports}
use Rattle.ui_build.specs.Plan.{Text, Refusal}
use Rattle.ui_build.specs.Package.{folder, file_in, linked_file, is_source, form_or, imports_in}
use Rattle.ui_build.specs.Build.{within_limit, ordered}
use Rattle.ui_build.specs.Loading.{Loaded, Imports, recorded, judgement}
use Rattle.ui_build.specs.Stops.{refusal_of}
use Rattle.ui_build.specs.declared.stop.Stop.{Stop}
use Rattle.ui_build.specs.declared.stop.Stop.TheVariants as stop

-- ---- sources

-- what a read gave: the bytes, or nothing where there are more than the limit
abbrev pub given_of : Option Text → Given
given_of (Some bytes) = given.Bytes bytes
given_of None = given.TooLong

-- the names of sources in the store
abbrev pub names_of : List SourceFile → List Text
names_of sources = map (λ source. source.0) sources

-- a folder was listed
abbrev pub HasListed : Text → List Text → List Hearing → Type 0
HasListed folder names heard = heard ≡ (ask.List, folder, given.Names names) ∷ []

-- what was heard as a file was read, so a source
abbrev pub heard_source : SourceFile → Hearing
heard_source source = (ask.Read, source.0, given_of source.1)

abbrev pub HasRead : SourceFile → List Hearing → Type 0
HasRead source heard = heard ≡ heard_source source ∷ []

-- Files of a folder were read by their names, in order.
pub record ReadsSources (folder : Text) (names : List Text) (sources : List SourceFile) (heard : List Hearing) : Type 0 where
  pub whole : heard ≡ map heard_source sources
  pub parts : names_of sources ≡ map (file_in folder) names

-- A folder was listed, and each source in it was read, in order.
pub record FindsSources (folder : Text) (sources : List SourceFile) (heard : List Hearing) : Type 0 where
  pub names : List Text
  pub whole : heard ≡ (ask.List, folder, given.Names names) ∷ map heard_source sources
  pub parts : names_of sources ≡ map (file_in folder) (filter is_source names)

-- The sources of a package were found, and have this form.
pub record ReadsForm (path : Text) (form : SourceForm) (heard : List Hearing) : Type 0 where
  pub sources : List SourceFile
  pub found : FindsSources (folder path) sources heard
  pub spelled : form_or path sources ≡ Ok form

-- ---- linked files

-- The linked file of a package was read, and its bytes are a container that stands for this, and for a package of that path.
pub record Loads (path : Text) (loaded : Loaded) (heard : List Hearing) : Type 0 where
  pub bytes : Text
  pub whole : heard ≡ (ask.Read, linked_file path, given.Bytes bytes) ∷ []
  pub stands : recorded (linked_file path) path (Some bytes) ≡ Ok loaded

-- The linked files of these packages were read, one after another.
abbrev pub LoadsAll : List Text → List Loaded → List Hearing → Type 0
LoadsAll [] [] heard = heard ≡ []
LoadsAll [] (one ∷ rest) heard = ⊥
LoadsAll (path ∷ paths) [] heard = ⊥
LoadsAll (path ∷ paths) (one ∷ rest) heard = (first : List Hearing) × (others : List Hearing) × (heard ≡ first ++ others) × Loads path one first × LoadsAll paths rest others

abbrev pub pairs_of : List Loaded → Imports
pairs_of all = (map (λ one. one.0) all, map (λ one. one.1) all)

pub record LoadsImports (paths : List Text) (imports : Imports) (heard : List Hearing) : Type 0 where
  pub all : List Loaded
  pub loads : LoadsAll paths all heard
  pub are : imports ≡ pairs_of all

-- ---- a package

-- Of a package its sources were heard, and then the linked files of its imports.
pub record HearsPackage (path : Text) (form : SourceForm) (imports : List Loaded) (heard : List Hearing) : Type 0 where
  pub sources : List Hearing
  pub linked : List Hearing
  pub whole : heard ≡ sources ++ linked
  pub read : ReadsForm path form sources
  pub loaded : LoadsAll (imported form) imports linked

-- By what was heard of a package it stands for this.
pub record Compiles (path : Text) (linked : Linked) (heard : List Hearing) : Type 0 where
  pub form : SourceForm
  pub imports : List Loaded
  pub hears : HearsPackage path form imports heard
  pub judged : judgement path form (pairs_of imports) ≡ Ok linked

-- Packages were compiled in this order, each by what was heard of it.
abbrev pub CompilesAll : List Text → List Hearing → Type 0
CompilesAll [] heard = heard ≡ []
CompilesAll (path ∷ paths) heard = (first : List Hearing) × (others : List Hearing) × (heard ≡ first ++ others) × ((linked : Linked) × Compiles path linked first) × CompilesAll paths others

-- ---- discovery

-- Behind what was found so far a path was read: the sources of its package were found, and their
-- imports, with which there aren't too many.
pub record FindsOne (found : Found) (path : Text) (more : Found) (heard : List Hearing) : Type 0 where
  pub sources : List SourceFile
  pub finds : FindsSources (folder path) sources heard
  pub within : within_limit (with_imports found path (imports_in path sources)) ≡ Ok more

-- So much is found from a root in so many turns. In each the least path that isn't read yet is read.
abbrev pub FindsIn : ℕ → Text → Found → List Hearing → Type 0
FindsIn zero root found heard = (found ≡ begun root) × (heard ≡ [])
FindsIn (suc turns) root found heard =
    (before : Found) × (path : Text) × (first : List Hearing) × (last : List Hearing)
    × (heard ≡ first ++ last) × FindsIn turns root before first
    × (least_unread before ≡ Some path) × FindsOne before path found last

abbrev pub Finds : Text → Found → List Hearing → Type 0
Finds root found heard = (turns : ℕ) × FindsIn turns root found heard

-- All that a root needs is found.
pub record FindsAll (root : Text) (found : Found) (heard : List Hearing) : Type 0 where
  pub finds : Finds root found heard
  pub all : least_unread found ≡ None

-- All that a root needs is found, and this is its order.
pub record FindsOrder (root : Text) (order : List Text) (heard : List Hearing) : Type 0 where
  pub found : Found
  pub finds : FindsAll root found heard
  pub ordered : ordered found.read ≡ Ok order

-- ---- a step

-- A refusal comes by what was heard, as said of it; a fault of a device and want of memory come
-- whatever was heard.
abbrev pub StoppedBy : (Refusal → List Hearing → Type 0) → Stop → List Hearing → Type 0
StoppedBy refuses (stop.Refused refusal) heard = refuses (refusal_of refusal) heard
StoppedBy refuses (stop.ReadFault name) heard = ⊤
StoppedBy refuses (stop.WriteFault name) heard = ⊤
StoppedBy refuses stop.NoMemory heard = ⊤

-- a step that writes hears nothing, and is not refused
abbrev pub IsNoRefusal : Stop → Type 0
IsNoRefusal (stop.Refused refusal) = ⊥
IsNoRefusal (stop.ReadFault name) = ⊤
IsNoRefusal (stop.WriteFault name) = ⊤
IsNoRefusal stop.NoMemory = ⊤

pub record HearsNothing {X : Type 0} (old new : StoreView) (result : Result X Stop) : Type 0 where
  pub told : new.heard ≡ old.heard
  pub stop : IfErr result IsNoRefusal

abbrev pub EndsBy : {X : Type 0} → (X → List Hearing → Type 0)
    → (Refusal → List Hearing → Type 0) → Result X Stop → List Hearing → Type 0
EndsBy gives refuses (Ok x) heard = gives x heard
EndsBy gives refuses (Err s) heard = StoppedBy refuses s heard

-- What a step heard, and that it ended by that: it gave a value as said of the value, was refused as
-- said of the refusal, or was stopped.
pub record HearsIn {X : Type 0} (gives : X → List Hearing → Type 0) (refuses : Refusal → List Hearing → Type 0) (old new : Hearings) (result : Result X Stop) : Type 0 where
  pub heard : List Hearing
  pub told : new ≡ more old heard
  pub ends : EndsBy gives refuses result heard

abbrev pub Hears : {X : Type 0} → (X → List Hearing → Type 0)
    → (Refusal → List Hearing → Type 0) → StoreView → StoreView → Result X Stop → Type 0
Hears gives refuses old new result = HearsIn gives refuses old.heard new.heard result

-- ---- a build

-- What a build hears: the sources of the packages found, then of each package in their order its sources and the linked
-- files of its imports, and at the end the linked file of the root, which stands for the export.
pub record Builds (path : Text) (export : Export) (heard : List Hearing) : Type 0 where
  pub order : List Text
  pub root : Loaded
  pub discovered : List Hearing
  pub compiled : List Hearing
  pub last : List Hearing
  pub whole : heard ≡ discovered ++ (compiled ++ last)
  pub finds : FindsOrder path order discovered
  pub compiles : CompilesAll order compiled
  pub loads : Loads path root last
  pub stands : root.0.export ≡ export
