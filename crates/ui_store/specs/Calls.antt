-- What a call on a store does to what the store tells: its files, the calls asked, and what they gave. This project's own.
use Rattle.std.specs.Prelude.{◌≡◌, ◌⊎◌, ℕ, List, [], ◌∷◌, take, Option, Result, Ok, Err, ⊤}
use Rattle.ui_store.specs.Told.{more}
use Rattle.ui_store.specs.Files.{Files, put}
use Rattle.ui_store.specs.declared.fault.StoreFault.{StoreFault}
use Rattle.ui_store.specs.declared.fault.StoreFault.TheVariants.{Missing, TooLong, Failed, NoMemory}
use Rattle.ui_store.specs.declared.store.AskKind.{AskKind}
use Rattle.ui_store.specs.declared.store.Given.{Given}
use Rattle.ui_store.specs.declared.store.Given.TheVariants as given

-- a call that was asked: which, and of what name
abbrev pub Ask : Type 0
Ask = AskKind × List ℕ

abbrev pub Calls : Type 0
Calls = Option (List Ask)

-- a call that gave something: which, of what name, and what it gave
abbrev pub Hearing : Type 0
Hearing = AskKind × List ℕ × Given

abbrev pub Hearings : Type 0
Hearings = Option (List Hearing)

-- What a call gave, seen by view, is what is wanted, but where the device failed or memory ran out.
abbrev pub Gives : {X Y : Type 0} → (X → Y) → Result X StoreFault → Result Y StoreFault → Type 0
Gives view (Ok x) want = want ≡ Ok (view x)
Gives view (Err Missing) want = want ≡ Err Missing
Gives view (Err TooLong) want = want ≡ Err TooLong
Gives view (Err Failed) want = ⊤
Gives view (Err NoMemory) want = ⊤

-- A call is asked; one for which memory ran out may be missing.
abbrev pub Asks : {T : Type 0} → Result T StoreFault → Calls → Calls → Ask → Type 0
Asks (Ok x) old new ask = new ≡ more old (ask ∷ [])
Asks (Err Missing) old new ask = new ≡ more old (ask ∷ [])
Asks (Err TooLong) old new ask = new ≡ more old (ask ∷ [])
Asks (Err Failed) old new ask = new ≡ more old (ask ∷ [])
Asks (Err NoMemory) old new ask = (new ≡ old) ⊎ (new ≡ more old (ask ∷ []))

-- What a call gave is heard, but for a fault of the device and want of memory.
abbrev pub Hears : {X : Type 0} → (X → Given) → Result X StoreFault → Hearings → Hearings → Ask → Type 0
Hears view (Ok x) old new ask = new ≡ more old ((ask.0, ask.1, view x) ∷ [])
Hears view (Err Missing) old new ask = new ≡ more old ((ask.0, ask.1, given.Missing) ∷ [])
Hears view (Err TooLong) old new ask = new ≡ more old ((ask.0, ask.1, given.TooLong) ∷ [])
Hears view (Err Failed) old new ask = new ≡ old
Hears view (Err NoMemory) old new ask = new ≡ old

-- After a write that failed: the old contents, or a front of the new ones, under that name.
abbrev pub Torn : Option Files → Option Files → List ℕ → List ℕ → Type 0
Torn old new name bytes = (new ≡ old) ⊎ ((n : ℕ) × (new ≡ put old name (take n bytes)))

-- what a write leaves
abbrev pub Writes : Result Unit StoreFault → Option Files → Option Files → List ℕ → List ℕ → Type 0
Writes (Ok x) old new name bytes = new ≡ put old name bytes
Writes (Err Failed) old new name bytes = Torn old new name bytes
Writes (Err NoMemory) old new name bytes = Torn old new name bytes
Writes (Err Missing) old new name bytes = ⊥
Writes (Err TooLong) old new name bytes = ⊥
