-- What a command does: its outcome, or a front of it where a device or memory ended it; and the cause of each end.
use Rattle.std.specs.Prelude.{◌≡◌, ◌⊎◌, ℕ, ◌≤◌, List, [], IfSome, codes, ⊤}
use Rattle.ui_store.specs.Causes.{Rose}
use Rattle.ui_store.specs.Told.{more}
use Rattle.ui_store.specs.Sinks.{Partly}
use Rattle.ui_store.specs.Calls.{Calls, Hearing}
use Rattle.ui_store.specs.Views.{StoreView, SourceView, SinkView}
use Rattle.ui_store.specs.declared.store.AskKind.TheVariants as ask
use Rattle.ui_exports.specs.Export.{Export}
use Rattle.ui_build.specs.Plan.{Text, Refusal}
use Rattle.ui_top.specs.Answers.{answers}
use Rattle.ui_build.specs.Stops.{Puts, PutsFront, AsksFront, EndsWith}
use Rattle.ui_build.specs.Heard.{Builds}
use Rattle.ui_build.specs.Refused.{BuildRefused, BadLinked}
use Rattle.ui_build.specs.Dump.{Dumps}
use Rattle.ui_top.specs.Outcome.{Outcome, Command, Build, Dump, outcome, queries_of, line, refused_as, refusal_line, answers_end, usage}
use Rattle.ui_top.specs.declared.status.Status.{Status}
use Rattle.ui_top.specs.declared.status.Status.TheVariants as status

-- What the store, the source, the sinks and the counter tell at a moment.
pub record Scene : Type 0 where
  pub store : StoreView
  pub input : SourceView
  pub out : SinkView
  pub err : SinkView
  pub steps : ℕ

abbrev pub scene : StoreView → SourceView → SinkView → SinkView → ℕ → Scene
scene store input out err steps = record { store = store; input = input; out = out; err = err; steps = steps }

-- A text is written on `err`, whole where its count didn't rise, and else a front of it.
pub record Says (text : Text) (old new : SinkView) : Type 0 where
  pub later : old.faults ≤ new.faults
  pub whole : ¬ (Rose old.faults new.faults) → new.written ≡ more old.written text
  pub part : Partly old.written new.written text

abbrev pub Said : Text → Scene → Scene → Type 0
Said text old new = Says text old.err new.err

-- how a command ends that a device's fault or want of memory ended
abbrev pub IsExcused : Status → Type 0
IsExcused status.ReadFault = ⊤
IsExcused status.WriteFault = ⊤
IsExcused status.OutFault = ⊤
IsExcused status.NoMemory = ⊤
IsExcused status.Ok = ⊥
IsExcused status.Refused = ⊥
IsExcused status.Usage = ⊥
IsExcused status.NoFile = ⊥
IsExcused status.BadFile = ⊥
IsExcused status.Stale = ⊥
IsExcused status.QueryRefused = ⊥
IsExcused status.InputTooLong = ⊥

-- All calls of the outcome were asked, and all of its files written.
pub record Done (want : Outcome) (old new : Scene) : Type 0 where
  pub asked : new.store.asked ≡ more old.store.asked want.asks
  pub files : Puts want.puts old.store.files new.store.files

-- The command ended as its outcome says.
pub record Reached (want : Outcome) (old new : Scene) (ends : Status) : Type 0 where
  pub status : ends ≡ want.ends
  pub out : new.out.written ≡ more old.out.written want.out
  pub line : Said want.line old new
  pub done : Done want old new

-- A fault of a device or want of memory ended it: a front of its bytes is written, a front of its calls asked, and a
-- front of its files written. At a fault of `out` all calls were asked and all files written before.
pub record Excused (want : Outcome) (old new : Scene) (ends : Status) : Type 0 where
  pub excused : IsExcused ends
  pub out : Partly old.out.written new.out.written want.out
  pub asked : AsksFront want.asks old.store.asked new.store.asked
  pub files : PutsFront want.puts old.store.files new.store.files
  pub done : ends ≡ status.OutFault → Done want old new

abbrev pub Reaches : Outcome → Scene → Scene → Status → Type 0
Reaches want old new ends = Excused want old new ends ⊎ Reached want old new ends

-- the name of the last call on the store, of a kind that reads
abbrev pub ReadLast : Calls → Text → Type 0
ReadLast asked name = EndsWith asked (ask.List, name) ⊎ EndsWith asked (ask.Read, name)

-- What a command hears that refuses it: a build, or the one linked file.
abbrev pub RefusedBy : Command → Refusal → List Hearing → Type 0
RefusedBy (Build path queries) refusal heard = BuildRefused path refusal heard
RefusedBy (Dump path queries) refusal heard = BadLinked path refusal heard

-- The command was refused by what it heard, and says that refusal alone.
pub record Refuses (command : Command) (old new : Scene) (ends : Status) : Type 0 where
  pub refusal : Refusal
  pub heard : List Hearing
  pub told : new.store.heard ≡ more old.store.heard heard
  pub refused : RefusedBy command refusal heard
  pub status : ends ≡ refused_as refusal
  pub line : Said (refusal_line refusal) old new
  pub out : new.out ≡ old.out

-- What a command hears that comes to this export: a build, whose linked file as it was heard last stands for it, or that
-- file alone.
abbrev pub ComesTo : Command → Export → List Hearing → Type 0
ComesTo (Build path queries) export heard = Builds path export heard
ComesTo (Dump path queries) export heard = Dumps path export heard

-- What was heard comes to this export.
pub record Exported (command : Command) (export : Export) (old new : Scene) : Type 0 where
  pub heard : List Hearing
  pub told : new.store.heard ≡ more old.store.heard heard
  pub gives : ComesTo command export heard

-- The queries were answered by the linked file as it was heard.
pub record Answers (command : Command) (old new : Scene) (ends : Status) : Type 0 where
  pub export : Export
  pub exported : Exported command export old new
  pub status : ends ≡ answers_end export (queries_of command)
  pub out : new.out.written ≡ more old.out.written (answers export (queries_of command))
  pub line : Said [] old new

-- a front of those answers is written
abbrev pub AnswersPartly : Command → Scene → Scene → Type 0
AnswersPartly command old new = (export : Export) × Exported command export old new × Partly old.out.written new.out.written (answers export (queries_of command))

-- A fault of a write ended it, which a command that writes nothing never has.
abbrev pub FailsWriting : Command → Scene → Scene → Type 0
FailsWriting (Build path queries) old new = Rose old.store.faults new.store.faults × ((name : Text) × EndsWith new.store.asked (ask.Write, name) × Said (line (codes "write fault: ") name) old new) × (new.out ≡ old.out)
FailsWriting (Dump path queries) old new = ⊥

-- It was refused by sources, or by linked files that don't fit together, which a command that reads one file never is.
abbrev pub RefusesPackage : Command → Scene → Scene → Status → Type 0
RefusesPackage (Build path queries) old new ends = Refuses (Build path queries) old new ends
RefusesPackage (Dump path queries) old new ends = ⊥

-- Why a command ends so, over every store, source and sink: a fault comes from its device, whose count rose, and names
-- the last call; a refusal and the answers come from what the store gave; and which ends a command has.
abbrev pub Caused : Command → Scene → Scene → Status → Type 0
Caused command old new status.ReadFault = Rose old.store.faults new.store.faults × ((name : Text) × ReadLast new.store.asked name × Said (line (codes "read fault: ") name) old new) × (new.out ≡ old.out)
Caused command old new status.WriteFault = FailsWriting command old new
Caused command old new status.OutFault = Rose old.out.faults new.out.faults × Said (line (codes "output fault") []) old new × AnswersPartly command old new
Caused command old new status.NoMemory = Said (line (codes "no memory") []) old new × ((new.out ≡ old.out) ⊎ AnswersPartly command old new)
Caused command old new status.Usage = ⊥
Caused command old new status.InputTooLong = ⊥
Caused command old new status.Ok = Answers command old new status.Ok
Caused command old new status.QueryRefused = Answers command old new status.QueryRefused
Caused command old new status.Refused = RefusesPackage command old new status.Refused
Caused command old new status.NoFile = Refuses command old new status.NoFile
Caused command old new status.BadFile = Refuses command old new status.BadFile
Caused command old new status.Stale = RefusesPackage command old new status.Stale

-- What a command does.
pub record Runs (command : Command) (old new : Scene) (ends : Status) : Type 0 where
  -- over a store that tells its files: the outcome by the sources alone, or by the file that is dumped
  pub reaches : IfSome old.store.files (λ told. Reaches (outcome told command) old new ends)
  -- over every store, source and sink
  pub caused : Caused command old new ends
  -- no count of faults falls, and what the command has no use for stays
  pub store_count : old.store.faults ≤ new.store.faults
  pub out_count : old.out.faults ≤ new.out.faults
  pub err_count : old.err.faults ≤ new.err.faults
  pub input : new.input ≡ old.input
  pub steps : new.steps ≡ old.steps

-- Words that spell no command: nothing but the usage is written, nothing is asked, and no count but that of `err` rises.
pub record RunsUsage (old new : Scene) (ends : Status) : Type 0 where
  pub status : ends ≡ status.Usage
  pub line : Said usage old new
  pub store : new.store ≡ old.store
  pub out : new.out ≡ old.out
  pub input : new.input ≡ old.input
  pub steps : new.steps ≡ old.steps

-- Where the store tells its files and no count rose, the command ends as its outcome says, or for want of memory.
abbrev pub Completes : Command → Scene → Scene → Status → Type 0
Completes command old new ends = IfSome old.store.files (λ told. ¬ (Rose old.store.faults new.store.faults) → ¬ (Rose old.out.faults new.out.faults) → (ends ≡ status.NoMemory) ⊎ Reached (outcome told command) old new ends)
