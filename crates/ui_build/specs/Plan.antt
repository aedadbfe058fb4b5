-- What a step of a build is to do, by the files that a store told: a value or a refusal, the calls on the store, and
-- the files written. This project's own.
use Rattle.std.specs.Prelude.{ℕ, Bool, List, [], ◌∷◌, ◌++◌, Result, Ok, Err}
use Rattle.ui_store.specs.Calls.{Ask}
use Rattle.ui_store.specs.declared.store.AskKind.TheVariants as ask
use Rattle.ui_base.specs.declared.value.Pos.{Pos}
use Rattle.ui_base.specs.declared.fault.Fault.{Fault}
use Rattle.ui_frame.specs.declared.frame.FrameFault.{FrameFault}
use Rattle.ui_exports.specs.Export.{Export}

abbrev pub Text : Type 0
Text = List ℕ

-- why the sources or the files give no answers
pub data Refusal : Type 0 where
  -- the store has no such file, or no such folder of sources
  NoFile : Text → Refusal
  -- the first fault of a package
  Faulty : Fault → Refusal
  -- the place of what this build doesn't take, in sources that have trees
  Form : Pos → Refusal
  -- a unit or linked file that is too long, is no container, or holds other elements than those of its package
  TooLong : Text → Refusal
  BadFrame : Text → FrameFault → Refusal
  BadElement : Text → Refusal
  -- more packages than a build may find
  TooMany : Refusal
  -- a path on a cycle of imports
  Cycle : Text → Refusal
  -- a path, and two fingerprints that are named for it
  Stale : Text → Text → Text → Refusal

-- a package's fault as a refusal
abbrev pub or_fault : {X : Type 0} → Result X Fault → Result X Refusal
or_fault (Ok x) = Ok x
or_fault (Err fault) = Err (Faulty fault)

-- What a package stands for, by the sources alone: its export, and the paths of the packages below it, each with whether
-- it is a direct import.
pub record Entry : Type 0 where
  pub export : Export
  pub below : List (Text × Bool)

-- the two files of a package: the same bytes under both names, which stand for this
pub record Put : Type 0 where
  pub unit : Text
  pub linked : Text
  pub entry : Entry

pub record Plan (X : Type 0) : Type 0 where
  pub value : Result X Refusal
  pub asks : List Ask
  pub puts : List Put

-- a value, and nothing to do
abbrev pub done : {X : Type 0} → X → Plan X
done x = record { value = Ok x; asks = []; puts = [] }

abbrev pub refused : {X : Type 0} → Refusal → Plan X
refused refusal = record { value = Err refusal; asks = []; puts = [] }

-- a result of no step
abbrev pub settled : {X : Type 0} → Result X Refusal → Plan X
settled (Ok x) = done x
settled (Err refusal) = refused refusal

-- the next step, where there was no refusal
abbrev pub next : {X Y : Type 0} → Result X Refusal → (X → Plan Y) → Plan Y
next (Ok x) f = f x
next (Err refusal) f = refused refusal

-- one step, and then the next
infixl 10 ◌>>=◌
abbrev pub ◌>>=◌ : {X Y : Type 0} → Plan X → (X → Plan Y) → Plan Y
p >>= f = record { value = (next p.value f).value; asks = p.asks ++ (next p.value f).asks; puts = p.puts ++ (next p.value f).puts }

-- a call on the store that gives this
abbrev pub asking : {X : Type 0} → Ask → Result X Refusal → Plan X
asking call value = record { value = value; asks = call ∷ []; puts = [] }

-- the files are written, the unit file before the linked file
abbrev pub writing : Put → Plan (Unit {0})
writing p = record { value = Ok tt; asks = (ask.Write, p.unit) ∷ (ask.Write, p.linked) ∷ []; puts = p ∷ [] }
