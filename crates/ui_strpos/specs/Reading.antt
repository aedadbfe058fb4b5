-- Reading an element's fields from the left: the value and what is left, or the place and cause of the first fault.
-- This project's own. Of two faults of one use its own go first: no such entry, another section, out of order; then
-- those of the element that it uses.
use Rattle.std.specs.Prelude.{◌≡◌, ℕ, zero, suc, ◌+◌, ◌<◌, List, [], ◌∷◌, ◌++◌, length, drop, nat_lt, nat_eq, if◌then◌else◌, ℤ, Bool, Option, Some, None, Result, Ok, Err, slice_get}
use Rattle.ui_frame.specs.Reading.{◌>>=◌, uint_at, int_at, truth_at}
use Rattle.ui_frame.specs.declared.number.NumFault.{NumFault}
use Rattle.ui_frame.specs.declared.number.NumFault.TheVariants as num
use Rattle.ui_strpos.specs.declared.fault.Cause.{Cause}
use Rattle.ui_strpos.specs.declared.fault.Cause.TheVariants.{Cut, LongNumber, BadBool, BadSection, BadIndex, TableOrder, TableUse, Tail}
use Rattle.ui_strpos.specs.declared.fault.ElementFault.{ElementFault}
use Rattle.ui_strpos.specs.declared.fault.ElementFault.TheVariants as faults
use Rattle.ui_strpos.specs.declared.shape.Shape.{Shape}
use Rattle.ui_strpos.specs.declared.target.Target.{Target}
use Rattle.ui_strpos.specs.Items.{target, place_in}
use Rattle.std.specs.Prelude.{get_or}

-- what an element is read over: its own number, its shape, the number of elements of each section, and the Strings
pub record Context : Type 0 where
  pub own : ℕ
  pub shape : Shape
  pub counts : List ℕ
  pub texts : List (List ℕ)

-- a reader in an element: the table, how many of its entries were used, the offset and the bytes from there
pub record State : Type 0 where
  pub context : Context
  pub table : List Target
  pub used : ℕ
  pub place : ℕ
  pub rest : List ℕ

pub record Fault : Type 0 where
  pub offset : ℕ
  pub cause : Cause

abbrev pub fault : ℕ → Cause → Fault
fault offset cause = record { offset = offset; cause = cause }

abbrev pub cause_of : NumFault → Cause
cause_of num.Cut = Cut
cause_of num.LongNumber = LongNumber
cause_of num.BadBool = BadBool

abbrev pub past : State → ℕ → State
past s len = record { context = s.context; table = s.table; used = s.used; place = s.place + len; rest = drop len s.rest }

abbrev pub field : {A : Type 0} → State → Result (A × ℕ) NumFault → Result (A × State) Fault
field s (Ok r) = Ok (r.0, past s r.1)
field s (Err e) = Err (fault s.place (cause_of e))

abbrev pub uint_in : State → Result (ℕ × State) Fault
uint_in s = field s (uint_at s.rest)

abbrev pub int_in : State → Result (ℤ × State) Fault
int_in s = field s (int_at s.rest)

abbrev pub truth_in : State → Result (Bool × State) Fault
truth_in s = field s (truth_at s.rest)

abbrev pub uses : State → ℕ → State
uses s k = record { context = s.context; table = s.table; used = (if nat_eq k s.used then s.used + 1 else s.used); place = s.place; rest = s.rest }

-- the index of the entry at a place of the table, for a use of a section
abbrev pub entry_index : ℕ → ℕ → ℕ → ℕ → Option Target → Result ℕ Fault
entry_index section place used k None = Err (fault place BadIndex)
entry_index section place used k (Some t) =
    if nat_eq t.section section
    then (if nat_lt used k then Err (fault place TableOrder) else Ok t.index)
    else Err (fault place BadSection)

abbrev pub used_index : ℕ → ℕ → ℕ → List Target → ℕ → Result ℕ Fault
used_index section place used table k = entry_index section place used k (slice_get table k)

unfoldable pub use_in : ℕ → State → Result (ℕ × State) Fault
use_in section s = uint_in s >>= λ k. used_index section s.place s.used s.table k.0 >>= λ index. Ok (index, uses k.1 k.0)

-- the end of an element
abbrev pub finish_in : State → Result Unit Fault
finish_in s =
    if nat_lt s.used (length s.table)
    then Err (fault 0 TableUse)
    else if nat_eq (length s.rest) 0
    then Ok tt
    else Err (fault s.place Tail)

abbrev pub Fails : {Y : Type 0} → ElementFault → Result Y Fault → Type 0
Fails faults.NoMemory read = Unit {0}
Fails (faults.Bad offset cause) read = read ≡ Err (fault offset cause)

abbrev pub Gives_value : {X Y : Type 0} → (X → Y) → Result X ElementFault → Result Y Fault → Type 0
Gives_value view (Ok x) read = read ≡ Ok (view x)
Gives_value view (Err e) read = Fails e read

-- What a call returned, seen by view, and what it left, is what reading gives, unless memory ran out.
abbrev pub Gives : {X Y : Type 0} → (X → Y) → Result X ElementFault → State → Result (Y × State) Fault → Type 0
Gives view (Ok x) new read = read ≡ Ok (view x, new)
Gives view (Err e) new read = Fails e read

abbrev pub IsMemory : ElementFault → Type 0
IsMemory faults.NoMemory = Unit {0}
IsMemory (faults.Bad offset cause) = ⊥

-- the bytes of a String
abbrev pub text_of : Context → ℕ → List ℕ
text_of c k = get_or c.texts k []

-- an entry of an element that there is
abbrev pub IsEntry : List ℕ → Target → Type 0
IsEntry counts t = t.index < get_or counts t.section 0

-- a number read at a place of plain bytes
abbrev pub located : {A : Type 0} → ℕ → Result (A × ℕ) NumFault → Result (A × ℕ) ElementFault
located at (Ok r) = Ok (r.0, at + r.1)
located at (Err e) = Err (faults.Bad at (cause_of e))

abbrev pub count_of : Context → ℕ → ℕ
count_of c section = get_or c.counts section 0

abbrev pub below : ℕ → ℕ → Cause → ℕ → Result ℕ Fault
below limit place cause n = if nat_lt n limit then Ok n else Err (fault place cause)

abbrev pub added : List Target → ℕ → Target → Result (List Target) Fault
added table place t = if nat_lt (place_in table t) (length table) then Err (fault place TableOrder) else Ok (table ++ t ∷ [])

abbrev pub with_table : State → List Target → State
with_table s table = record { context = s.context; table = table; used = s.used; place = s.place; rest = s.rest }

-- an entry of the table
unfoldable pub entry_in : State → Result State Fault
entry_in s = do
  section ← uint_in s
  known ← below 10 s.place BadSection section.0
  index ← uint_in section.1
  there ← below (count_of s.context section.0) section.1.place BadIndex index.0
  table ← added s.table s.place (target section.0 index.0)
  Ok (with_table index.1 table)

unfoldable pub entries_in : ℕ → State → Result State Fault
entries_in zero s = Ok s
entries_in (suc n) s = entry_in s >>= entries_in n

abbrev pub fresh : Context → List ℕ → State
fresh c bytes = record { context = c; table = []; used = 0; place = 0; rest = bytes }

-- the table, and the reader at the data
unfoldable pub table_in : State → Result State Fault
table_in s = uint_in s >>= λ n. entries_in n.0 n.1

abbrev pub start_in : Context → List ℕ → Result State Fault
start_in c bytes = table_in (fresh c bytes)

abbrev pub Leaves : {X : Type 0} → Result X ElementFault → State → Result State Fault → Type 0
Leaves (Ok x) new read = read ≡ Ok new
Leaves (Err e) new read = Fails e read

abbrev pub Starts : Result State ElementFault → Result State Fault → Type 0
Starts (Ok s) read = read ≡ Ok s
Starts (Err e) read = Fails e read

abbrev pub Ends : Result Unit ElementFault → Result Unit Fault → Type 0
Ends (Ok x) read = read ≡ Ok tt
Ends (Err e) read = Fails e read
