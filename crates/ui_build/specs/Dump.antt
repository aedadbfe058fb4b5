-- What answering from a package's linked file alone is to do, and what such a step hears.
use Rattle.std.specs.Prelude.{◌≡◌, List, ⊤}
use Rattle.ui_store.specs.Files.{Files}
use Rattle.ui_store.specs.Calls.{Hearing}
use Rattle.ui_exports.specs.Export.{Export}
use Rattle.ui_build.specs.Plan.{Text, Refusal, NoFile, Form, Faulty, TooLong, BadFrame, BadElement, TooMany, Cycle, Stale, Plan, done, ◌>>=◌}
use Rattle.ui_build.specs.Loading.{Loaded, load}
use Rattle.ui_build.specs.Heard.{Loads}
use Rattle.ui_build.specs.Stops.{refusal_of}
use Rattle.ui_build.specs.declared.stop.Stop.{Stop}
use Rattle.ui_build.specs.declared.stop.Stop.TheVariants as stop

-- what a package exports by its linked file, whatever the sources say
abbrev pub dump : Files → Text → Plan Export
dump files path = load files path >>= λ loaded. done loaded.0.export

-- The linked file of a package was heard and nothing else, and it stands for the export.
pub record Dumps (path : Text) (export : Export) (heard : List Hearing) : Type 0 where
  pub root : Loaded
  pub loads : Loads path root heard
  pub stands : root.0.export ≡ export

-- the refusals of a linked file that was asked for
abbrev pub IsOfFile : Refusal → Type 0
IsOfFile (NoFile name) = ⊤
IsOfFile (Form pos) = ⊥
IsOfFile (Faulty fault) = ⊥
IsOfFile (TooLong name) = ⊤
IsOfFile (BadFrame name fault) = ⊤
IsOfFile (BadElement name) = ⊤
IsOfFile TooMany = ⊥
IsOfFile (Cycle path) = ⊥
IsOfFile (Stale path first second) = ⊥

-- what may stop a step that reads linked files alone
abbrev pub IsReadStop : Stop → Type 0
IsReadStop (stop.Refused refusal) = IsOfFile (refusal_of refusal)
IsReadStop (stop.ReadFault name) = ⊤
IsReadStop (stop.WriteFault name) = ⊥
IsReadStop stop.NoMemory = ⊤
