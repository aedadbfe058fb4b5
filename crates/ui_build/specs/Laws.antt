-- Laws of what a build is to do, by its plan.
use Rattle.std.specs.Prelude.{◌≡◌, ℕ, suc, ◌≤◌, ◌⊎◌, Err, ⊤}
use Rattle.ui_store.specs.Files.{Files}
use Rattle.ui_order.specs.Found.{begun}
use Rattle.ui_build.specs.Plan.{Text, Refusal, NoFile, Form, Faulty, TooLong, BadFrame, BadElement, TooMany, Cycle, Stale}
use Rattle.ui_build.specs.Package.{folder, file_in}
use Rattle.ui_build.specs.Build.{package_limit, discover, build}
use Rattle.ui_build.specs.Built.{SameSources}

-- With more turns discovery does the same: it never ends because no turn is left.
abbrev pub TurnsSuffice : Type 0
TurnsSuffice = (files : Files) (root : Text) (turns : ℕ) → suc package_limit ≤ turns → discover turns files (begun root) ≡ discover (suc package_limit) files (begun root)

-- Files with the same sources have the same build.
abbrev pub SourcesDecide : Type 0
SourcesDecide = (files told : Files) (root : Text) → SameSources files told → build told root ≡ build files root

-- the folder of a package, or a file in it
abbrev pub IsSourceName : Text → Type 0
IsSourceName name = (path : Text) × ((name ≡ folder path) ⊎ ((part : Text) × (name ≡ file_in (folder path) part)))

-- a refusal by sources: no linked file is missing, bad or stale
abbrev pub IsOfSources : Refusal → Type 0
IsOfSources (NoFile name) = IsSourceName name
IsOfSources (Form pos) = ⊤
IsOfSources (Faulty fault) = ⊤
IsOfSources (TooLong name) = ⊥
IsOfSources (BadFrame name fault) = ⊥
IsOfSources (BadElement name) = ⊥
IsOfSources TooMany = ⊤
IsOfSources (Cycle path) = ⊤
IsOfSources (Stale path first second) = ⊥

-- A build is refused by sources alone.
abbrev pub RefusesBySources : Type 0
RefusesBySources = (files : Files) (root : Text) (refusal : Refusal) → (build files root).value ≡ Err refusal → IsOfSources refusal
