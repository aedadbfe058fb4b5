-- The fields of an element's data, and the one spelling of a list of them. This project's own.
--
-- An element is its relocation table, the count and then section and number of each entry, followed by
-- its data. A use of an element is the place of its entry. The table has exactly the targets used,
-- each once, in the order of first use.
use Rattle.std.specs.Prelude.{ℕ, ℤ, Bool, List, [], ◌∷◌, ◌++◌, length, nat_eq, nat_lt, ◌&&◌, if◌then◌else◌}
use Rattle.std.specs.List.{flat_map, position_or_len}
use Rattle.ui_frame.specs.Number.{uint, int, truth}
use Rattle.ui_strpos.specs.declared.target.Target.{Target}

-- a field of an element's data; a use names its target by the section's number and the element's
pub data Item : Type 0 where
  UInt : (n : ℕ) → Item
  Int : (z : ℤ) → Item
  Truth : (b : Bool) → Item
  Use : (section : ℕ) (index : ℕ) → Item

abbrev pub target : ℕ → ℕ → Target
target section index = record { section = section; index = index }

abbrev pub is_target : Target → Target → Bool
is_target a b = nat_eq a.section b.section && nat_eq a.index b.index

-- the first place of a target, or the length where it isn't there
abbrev pub place_in : List Target → Target → ℕ
place_in table t = position_or_len (is_target t) table

-- the table after a use: a new target comes last
abbrev pub after_use : List Target → Target → List Target
after_use table t = if nat_lt (place_in table t) (length table) then table else table ++ t ∷ []

-- what is written so far: the table, and the bytes of the data
pub record Written : Type 0 where
  pub table : List Target
  pub bytes : List ℕ

abbrev pub table_by : List Target → Item → List Target
table_by table (UInt n) = table
table_by table (Int z) = table
table_by table (Truth b) = table
table_by table (Use section index) = after_use table (target section index)

-- the bytes of a field, where the table has the targets of the fields before it
abbrev pub bytes_by : List Target → Item → List ℕ
bytes_by table (UInt n) = uint n
bytes_by table (Int z) = int z
bytes_by table (Truth b) = truth b
bytes_by table (Use section index) = uint (place_in table (target section index))

abbrev pub with_item : Written → Item → Written
with_item w i = record { table = table_by w.table i; bytes = w.bytes ++ bytes_by w.table i }

abbrev pub written : Written → List Item → Written
written w [] = w
written w (i ∷ is) = written (with_item w i) is

abbrev pub entry : Target → List ℕ
entry t = uint t.section ++ uint t.index

abbrev pub table_bytes : List Target → List ℕ
table_bytes table = uint (length table) ++ flat_map entry table

abbrev pub spelled : Written → List ℕ
spelled w = table_bytes w.table ++ w.bytes

abbrev pub nothing : Written
nothing = record { table = []; bytes = [] }

-- the one spelling of a list of fields
abbrev pub spelling : List Item → List ℕ
spelling is = spelled (written nothing is)
