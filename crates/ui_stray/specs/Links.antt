-- The elements of a container as numbers, section after section, and their uses as links between
-- these.
use Rattle.std.specs.Prelude.{◌≡◌, ℕ, zero, suc, ◌+◌, ◌-◌, ◌^◌, ◌<◌, ◌≤◌, min, List, [], ◌∷◌, ◌++◌, map, length}
use Rattle.std.specs.Prelude.{take, drop, get_or, Result, Ok, Err}
use Rattle.std.specs.List.{range_with_len}
use Rattle.ui_frame.specs.Container.{Parts, section}
use Rattle.ui_frame.specs.Reading.{◌>>=◌, uint_at}
use Rattle.ui_frame.specs.Sections.{number_of}
use Rattle.ui_frame.specs.declared.number.NumFault.{NumFault}
use Rattle.ui_frame.specs.declared.section.Section.{Section}
use Rattle.ui_frame.specs.declared.section.Section.TheVariants.{Str, Obj}
use Rattle.ui_strpos.specs.Items.{target}
use Rattle.ui_strpos.specs.declared.target.Target.{Target}

abbrev pub total : List ℕ → ℕ
total [] = 0
total (n ∷ ns) = n + total ns

-- the number of elements in the first n sections
abbrev pub before : Parts → ℕ → ℕ
before parts n = total (take n (map length parts))

-- an element's number
abbrev pub number_in : Parts → Section → ℕ → ℕ
number_in parts s k = before parts (number_of s) + k

-- where the sections start
pub record AreStarts (parts : Parts) (starts : List ℕ) : Type 0 where
  pub at : (n : ℕ) → n < 10 → get_or starts n 0 ≡ before parts n
  pub small : before parts 10 ≤ 2 ^ 36

-- ---- the table at the front of an element's bytes

-- an entry, and what stands after it
unfoldable pub entry_at : List ℕ → Result (Target × List ℕ) NumFault
entry_at bytes = do
  section ← uint_at bytes
  index ← uint_at (drop section.1 bytes)
  Ok (target section.0 index.0, drop index.1 (drop section.1 bytes))

abbrev pub entry_then : (List ℕ → List Target) → Result (Target × List ℕ) NumFault → List Target
entry_then others (Ok e) = e.0 ∷ others e.1
entry_then others (Err f) = []

-- so many entries, as far as they stand there
unfoldable pub entries_at : ℕ → List ℕ → List Target
entries_at zero bytes = []
entries_at (suc n) bytes = entry_then (entries_at n) (entry_at bytes)

abbrev pub table_after : List ℕ → Result (ℕ × ℕ) NumFault → List Target
table_after bytes (Ok count) = entries_at count.0 (drop count.1 bytes)
table_after bytes (Err e) = []

unfoldable pub table_at : List ℕ → List Target
table_at bytes = table_after bytes (uint_at bytes)

-- ---- links

-- the number of a target, of at most 64 bits
abbrev pub target_number : List ℕ → Target → ℕ
target_number starts t = min (get_or starts t.section 0 + t.index) (2 ^ 64 - 1)

-- a String has no table
abbrev pub targets_at : Section → List ℕ → List Target
targets_at Str bytes = []
targets_at s bytes = table_at bytes

-- the elements of an Obj's number beside it: its Name, ObjExt and ObjDict
abbrev pub targets_beside : Section → ℕ → List Target
targets_beside Obj k = target 4 k ∷ target 7 k ∷ target 8 k ∷ []
targets_beside s k = []

-- what an element leads to
abbrev pub targets_of : Parts → Section → ℕ → List Target
targets_of parts s k = targets_at s (get_or (section s parts) k []) ++ targets_beside s k

abbrev pub links_of : List ℕ → Parts → Section → ℕ → List ℕ
links_of starts parts s k = map (target_number starts) (targets_of parts s k)

-- those of a section
abbrev pub section_links : List ℕ → Parts → Section → List (List ℕ)
section_links starts parts s = map (links_of starts parts s)
    (range_with_len 0 (length (section s parts)))

-- all links of the first n sections
pub record AreLinked (starts : List ℕ) (parts : Parts) (n : ℕ)
    (links : List (List ℕ)) : Type 0 where
  pub size : length links ≡ before parts n
  pub at : (s : Section) (k : ℕ) → number_of s < n → k < length (section s parts)
      → get_or links (number_in parts s k) [] ≡ links_of starts parts s k

-- the numbers of the roots
abbrev pub roots_by : List ℕ → List ℕ
roots_by starts = target_number starts (target 1 0) ∷ target_number starts (target 1 1) ∷ []
