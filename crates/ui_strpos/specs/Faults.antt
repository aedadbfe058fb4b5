-- What stands before the place of a fault. This project's own.
--
-- A fault stands at the first byte of a field: of the count of the table, of the section or the number of an entry, or of
-- a field of the data. What stands before is then whole fields; an entry that isn't used is told at the offset 0.
use Rattle.std.specs.Prelude.{◌≡◌, ℕ, List, [], ◌++◌, take, Option, Some, None}
use Rattle.std.specs.List.{flat_map}
use Rattle.ui_frame.specs.Number.{uint}
use Rattle.ui_strpos.specs.declared.target.Target.{Target}
use Rattle.ui_strpos.specs.declared.fault.ElementFault.{ElementFault}
use Rattle.ui_strpos.specs.declared.fault.ElementFault.TheVariants as faults
use Rattle.ui_strpos.specs.Items.{Item, written, nothing, entry, table_bytes}

-- nothing; or the count of a table, some entries and perhaps the section of the next; or the whole table, with the
-- entries that no field uses yet, and some fields
pub data Front : Type 0 where
  Nothing : Front
  InTable : (count : ℕ) (entries : List Target) (section : Option ℕ) → Front
  InData : (unused : List Target) (fields : List Item) → Front

abbrev pub section_bytes : Option ℕ → List ℕ
section_bytes None = []
section_bytes (Some n) = uint n

-- a table and fields, where the table has further entries
abbrev pub with_unused : List Target → List Item → List ℕ
with_unused unused is = table_bytes ((written nothing is).table ++ unused) ++ (written nothing is).bytes

abbrev pub front_bytes : Front → List ℕ
front_bytes Nothing = []
front_bytes (InTable count entries section) = (uint count ++ flat_map entry entries) ++ section_bytes section
front_bytes (InData unused is) = with_unused unused is

-- so many bytes are whole fields
abbrev pub EndsField : List ℕ → ℕ → Type 0
EndsField bytes offset = (front : Front) × (take offset bytes ≡ front_bytes front)

-- a fault stands where a field begins
abbrev pub StandsAtField : List ℕ → ElementFault → Type 0
StandsAtField bytes faults.NoMemory = Unit {0}
StandsAtField bytes (faults.Bad offset cause) = EndsField bytes offset
