-- Why a step was refused, by what it heard, over every store that tells what its calls gave. Each
-- says of the step of its plan what was heard up to the call, or the result, that refused it. This
-- project's own.
use Rattle.std.specs.Prelude.{◌≡◌, ◌⊎◌, List, [], ◌∷◌, ◌++◌, filter, Some, Result, Err}
use Rattle.ui_store.specs.Calls.{Hearing}
use Rattle.ui_store.specs.declared.store.AskKind.TheVariants as ask
use Rattle.ui_store.specs.declared.store.Given.TheVariants as given
use Rattle.ui_forms.specs.Form.{imported}
use Rattle.ui_sources.specs.Sources.{SourceFile}
use Rattle.ui_order.specs.Found.{Found, least_unread, with_imports}
use Rattle.ui_build.specs.Plan.{Text, Refusal, NoFile}
use Rattle.ui_build.specs.Package.{folder, file_in, linked_file, is_source, form_or, imports_in, some_source}
use Rattle.ui_build.specs.Build.{within_limit, ordered}
use Rattle.ui_build.specs.Loading.{Loaded, recorded, judgement}
use Rattle.ui_build.specs.Heard.{HasListed, HasRead, ReadsSources, FindsSources, ReadsForm, LoadsAll, LoadsImports, CompilesAll, Finds, FindsAll, FindsOrder}

-- ---- one step and the next

-- what was heard before gave this result, which is the refusal, and nothing more was heard
abbrev pub By : {X : Type 0} → Result X Refusal → Refusal → List Hearing → Type 0
By result refusal heard = (result ≡ Err refusal) × (heard ≡ [])

-- A step gave a value, and the next, which goes by that value, was refused.
pub record RefusedNext {X : Type 0} (gives : X → List Hearing → Type 0) (next : X → Refusal → List Hearing → Type 0) (refusal : Refusal) (heard : List Hearing) : Type 0 where
  pub value : X
  pub first : List Hearing
  pub last : List Hearing
  pub whole : heard ≡ first ++ last
  pub given : gives value first
  pub refused : next value refusal last

-- The first of two steps was refused, or it gave a value and the next was.
abbrev pub EitherRefused : {X : Type 0} → (Refusal → List Hearing → Type 0)
    → (X → List Hearing → Type 0) → (X → Refusal → List Hearing → Type 0)
    → Refusal → List Hearing → Type 0
EitherRefused first gives next refusal heard = first refusal heard ⊎ RefusedNext gives next refusal heard

-- One of several steps was refused, behind those before it.
pub record OneRefused {X : Type 0} (gives : List X → List Hearing → Type 0) (one : X → Refusal → List Hearing → Type 0) (all : List X) (refusal : Refusal) (heard : List Hearing) : Type 0 where
  pub front : List X
  pub at : X
  pub rest : List X
  pub parts : all ≡ front ++ at ∷ rest
  pub first : List Hearing
  pub last : List Hearing
  pub whole : heard ≡ first ++ last
  pub given : gives front first
  pub refused : one at refusal last

-- ---- sources

-- there is no such folder, or no such file
abbrev pub LacksFolder : Text → Refusal → List Hearing → Type 0
LacksFolder folder refusal heard =
    (refusal ≡ NoFile folder) × (heard ≡ (ask.List, folder, given.Missing) ∷ [])

abbrev pub LacksFile : Text → Refusal → List Hearing → Type 0
LacksFile name refusal heard =
    (refusal ≡ NoFile name) × (heard ≡ (ask.Read, name, given.Missing) ∷ [])

-- the files of a folder by these names were read
abbrev pub ReadsThese : Text → List Text → List Hearing → Type 0
ReadsThese folder names heard = (sources : List SourceFile) × ReadsSources folder names sources heard

-- one of the files of a folder, by these names, isn't there
abbrev pub LacksSource : Text → List Text → Refusal → List Hearing → Type 0
LacksSource folder names =
    OneRefused (ReadsThese folder) (λ name. LacksFile (file_in folder name)) names

-- A folder has no sources: it isn't there, one of the files in it isn't, or none is a source.
abbrev pub LacksSources : Text → Refusal → List Hearing → Type 0
LacksSources folder =
    EitherRefused (LacksFolder folder) (HasListed folder) (λ names.
    EitherRefused (LacksSource folder (filter is_source names)) (ReadsSources folder (filter is_source names)) (λ sources.
    By (some_source folder sources).value))

-- the sources of a package aren't there, or have no trees or no form
abbrev pub LacksForm : Text → Refusal → List Hearing → Type 0
LacksForm path =
    EitherRefused (LacksSources (folder path)) (FindsSources (folder path)) (λ sources.
    By (form_or path sources))

-- ---- linked files

-- the linked file of a package isn't there, is too long, is no container, or stands for no package of that path
abbrev pub BadLinked : Text → Refusal → List Hearing → Type 0
BadLinked path =
    EitherRefused (LacksFile (linked_file path)) (λ bytes. HasRead (linked_file path, bytes)) (λ bytes.
    By (recorded (linked_file path) path bytes))

-- the linked files of these packages were read
abbrev pub LoadsThese : List Text → List Hearing → Type 0
LoadsThese paths heard = (all : List Loaded) × LoadsAll paths all heard

-- the linked file of one of these packages is bad
abbrev pub BadImports : List Text → Refusal → List Hearing → Type 0
BadImports paths = OneRefused LoadsThese BadLinked paths

-- ---- packages

-- a package is refused by its sources, by the linked file of an import, or by what all of these say
abbrev pub BadPackage : Text → Refusal → List Hearing → Type 0
BadPackage path =
    EitherRefused (LacksForm path) (ReadsForm path) (λ form.
    EitherRefused (BadImports (imported form)) (LoadsImports (imported form)) (λ imports.
    By (judgement path form imports)))

-- of packages that are compiled in this order one is refused
abbrev pub BadPackages : List Text → Refusal → List Hearing → Type 0
BadPackages order = OneRefused CompilesAll BadPackage order

-- ---- discovery

-- Behind what was found so far a path couldn't be read: its package has no sources, or with its
-- imports there are too many.
abbrev pub LacksOne : Found → Text → Refusal → List Hearing → Type 0
LacksOne found path =
    EitherRefused (LacksSources (folder path)) (FindsSources (folder path)) (λ sources.
    By (within_limit (with_imports found path (imports_in path sources))))

-- the least path that isn't read yet couldn't be read
abbrev pub LacksNext : Found → Refusal → List Hearing → Type 0
LacksNext found refusal heard =
    (path : Text) × (least_unread found ≡ Some path) × LacksOne found path refusal heard

-- not all that a root needs is found
abbrev pub LacksPackages : Text → Refusal → List Hearing → Type 0
LacksPackages root = RefusedNext (Finds root) LacksNext

-- there is no order of what a root needs: not all of it is found, or the imports have a cycle
abbrev pub LacksOrder : Text → Refusal → List Hearing → Type 0
LacksOrder root =
    EitherRefused (LacksPackages root) (FindsAll root) (λ found. By (ordered found.read))

-- ---- a build

-- A build is refused: there is no order of the packages, one of them is refused, or the linked file
-- of the root is bad.
abbrev pub BuildRefused : Text → Refusal → List Hearing → Type 0
BuildRefused root =
    EitherRefused (LacksOrder root) (FindsOrder root) (λ order.
    EitherRefused (BadPackages order) (λ (done : Unit {0}). CompilesAll order) (λ done.
    BadLinked root))
