-- What a step did: what its plan says, or a front of it where a device or memory stopped it; and why it stopped.
use Rattle.std.specs.Prelude.{◌≡◌, ◌⊎◌, ℕ, ◌≤◌, List, [], ◌∷◌, ◌++◌, length, take, Option, IfSome, Result, Ok, Err, IfErr, string_bytes, ⊤}
use Rattle.ui_store.specs.Causes.{Rose}
use Rattle.ui_store.specs.Told.{more}
use Rattle.ui_store.specs.Files.{Files, put}
use Rattle.ui_store.specs.Calls.{Ask, Calls, Torn}
use Rattle.ui_store.specs.Views.{StoreView}
use Rattle.ui_store.specs.declared.store.AskKind.TheVariants as ask
use Rattle.ui_frame.specs.Laws.{IsBytes}
use Rattle.ui_consts.specs.Record.{Holds}
use Rattle.ui_build.specs.Plan.{Text, Refusal, NoFile, Faulty, Form, TooLong, BadFrame, BadElement, TooMany, Cycle, Stale, Entry, Put, Plan}
use Rattle.ui_build.specs.Package.{file_limit}
use Rattle.ui_build.specs.Loading.{linked_as}
use Rattle.ui_build.specs.declared.stop.Refusal.{Refusal as Told}
use Rattle.ui_build.specs.declared.stop.Refusal.TheVariants as told
use Rattle.ui_build.specs.declared.stop.Stop.{Stop}
use Rattle.ui_build.specs.declared.stop.Stop.TheVariants as stop

-- a refusal, without where its texts lie in memory
abbrev pub refusal_of : Told → Refusal
refusal_of (told.NoFile name) = NoFile (string_bytes name)
refusal_of (told.Faulty fault) = Faulty fault
refusal_of (told.Form pos) = Form pos
refusal_of (told.TooLong name) = TooLong (string_bytes name)
refusal_of (told.BadFrame name fault) = BadFrame (string_bytes name) fault
refusal_of (told.BadElement name) = BadElement (string_bytes name)
refusal_of told.TooMany = TooMany
refusal_of (told.Cycle path) = Cycle (string_bytes path)
refusal_of (told.Stale path first second) = Stale path first second

-- the files and calls that a store tells at a moment
pub record State : Type 0 where
  pub files : Option Files
  pub asked : Calls

abbrev pub state : Option Files → Calls → State
state files asked = record { files = files; asked = asked }

abbrev pub seen : StoreView → State
seen store = state store.files store.asked

-- The bytes are a file that is read whole, and stand for the entry, over the files before: each package below has the
-- fingerprint of its linked file there.
pub record IsFileOf (old : Option Files) (bytes : Text) (entry : Entry) : Type 0 where
  pub are : IsBytes bytes
  pub holds : IfSome old (λ told. Holds bytes (linked_as told entry))
  pub short : length bytes ≤ file_limit

-- both files of a package with these bytes
abbrev pub with_both : Put → Text → Option Files → Option Files
with_both p bytes old = put (put old p.unit bytes) p.linked bytes

-- a front of the unit file, or the whole of it and a front of the linked file
abbrev pub WithFront : Put → Text → Option Files → Option Files → Type 0
WithFront p bytes old new = ((n : ℕ) × (new ≡ put old p.unit (take n bytes))) ⊎ ((n : ℕ) × (new ≡ put (put old p.unit bytes) p.linked (take n bytes)))

-- The files were written, one package's after another's, with bytes that stand for what they are to stand for.
abbrev pub Puts : List Put → Option Files → Option Files → Type 0
Puts [] old new = new ≡ old
Puts (p ∷ ps) old new = (bytes : Text) × IsFileOf old bytes p.entry × Puts ps (with_both p bytes old) new

-- Some of the files were written, in their order, and of the last one maybe a front alone.
abbrev pub PutsFront : List Put → Option Files → Option Files → Type 0
PutsFront [] old new = new ≡ old
PutsFront (p ∷ ps) old new = (new ≡ old) ⊎ ((bytes : Text) × IsFileOf old bytes p.entry × (WithFront p bytes old new ⊎ PutsFront ps (with_both p bytes old) new))

-- A front of the calls was asked.
pub record AsksFront (asks : List Ask) (old new : Calls) : Type 0 where
  pub front : List Ask
  pub rest : List Ask
  pub whole : asks ≡ front ++ rest
  pub asked : new ≡ more old front

-- the plan's calls were asked and its files written
pub record Ends {X : Type 0} (plan : Plan X) (old new : State) : Type 0 where
  pub asked : new.asked ≡ more old.asked plan.asks
  pub files : Puts plan.puts old.files new.files

-- a front of them
pub record Stops {X : Type 0} (plan : Plan X) (old new : State) : Type 0 where
  pub asked : AsksFront plan.asks old.asked new.asked
  pub files : PutsFront plan.puts old.files new.files

abbrev pub DoesStop : {X : Type 0} → Plan X → State → State → Stop → Type 0
DoesStop plan old new (stop.Refused refusal) = (plan.value ≡ Err (refusal_of refusal)) × Ends plan old new
DoesStop plan old new (stop.ReadFault name) = Stops plan old new
DoesStop plan old new (stop.WriteFault name) = Stops plan old new
DoesStop plan old new stop.NoMemory = Stops plan old new

-- The step did what its plan says; a fault of a device or want of memory may have stopped it.
abbrev pub Does : {A X : Type 0} → (A → X) → Plan X → State → State → Result A Stop → Type 0
Does view plan old new (Ok a) = (plan.value ≡ Ok (view a)) × Ends plan old new
Does view plan old new (Err s) = DoesStop plan old new s

-- the same of a store that may tell nothing
abbrev pub DoesSeen : {A X : Type 0} → (A → X) → (Files → Plan X) → State → State → Result A Stop → Type 0
DoesSeen view plan old new result = IfSome old.files (λ files. Does view (plan files) old new result)

abbrev pub DoesTold : {A X : Type 0} → (A → X) → (Files → Plan X) → StoreView → StoreView → Result A Stop → Type 0
DoesTold view plan old new result = DoesSeen view plan (seen old) (seen new) result

-- The same where the code doesn't keep the value, of which this holds then.
abbrev pub Carries : {A X : Type 0} → (X → Type 0) → Plan X → State → State → Result A Stop → Type 0
Carries {A} {X} holds plan old new (Ok a) = (x : X) × (plan.value ≡ Ok x) × Ends plan old new × holds x
Carries holds plan old new (Err s) = DoesStop plan old new s

-- A call that writes was asked; one that was stopped may be missing.
abbrev pub AsksWrite : {X : Type 0} → Text → Calls → Calls → Result X Stop → Type 0
AsksWrite name old new (Ok x) = new ≡ more old ((ask.Write, name) ∷ [])
AsksWrite name old new (Err s) = (new ≡ old) ⊎ (new ≡ more old ((ask.Write, name) ∷ []))

-- The bytes stand under the name; after a call that was stopped the old ones, or a front of these.
abbrev pub WritesFile : {X : Type 0} → Text → Text → Option Files → Option Files → Result X Stop → Type 0
WritesFile name bytes old new (Ok x) = new ≡ put old name bytes
WritesFile name bytes old new (Err s) = Torn old new name bytes

-- A result of no step is what is wanted, but for want of memory.
abbrev pub SettlesStop : {X : Type 0} → Result X Refusal → Stop → Type 0
SettlesStop want (stop.Refused refusal) = want ≡ Err (refusal_of refusal)
SettlesStop want (stop.ReadFault name) = ⊥
SettlesStop want (stop.WriteFault name) = ⊥
SettlesStop want stop.NoMemory = ⊤

abbrev pub Settles : {A X : Type 0} → (A → X) → Result X Refusal → Result A Stop → Type 0
Settles view want (Ok a) = want ≡ Ok (view a)
Settles view want (Err s) = SettlesStop want s

-- the last call that was asked
abbrev pub EndsWith : Calls → Ask → Type 0
EndsWith asked last = (before : Calls) × (asked ≡ more before (last ∷ []))

-- A fault of the device: the count rose, and the last call asked is of that name.
abbrev pub StopCause : StoreView → StoreView → Stop → Type 0
StopCause old new (stop.ReadFault name) = Rose old.faults new.faults × (EndsWith new.asked (ask.List, string_bytes name) ⊎ EndsWith new.asked (ask.Read, string_bytes name))
StopCause old new (stop.WriteFault name) = Rose old.faults new.faults × EndsWith new.asked (ask.Write, string_bytes name)
StopCause old new (stop.Refused refusal) = ⊤
StopCause old new stop.NoMemory = ⊤

pub record HasCause {X : Type 0} (old new : StoreView) (result : Result X Stop) : Type 0 where
  pub later : old.faults ≤ new.faults
  pub stop : IfErr result (StopCause old new)
