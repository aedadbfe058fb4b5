-- What a search keeps in memory, read in a table.
use Rattle.std.specs.Prelude.{◌≡◌, ℕ, ◌≤◌, Bool, true, false, List, length, take, Result, Ok, Err}
use Rattle.ui_types.specs.declared.id.TypeId.{TypeId}
use Rattle.ui_types.specs.Table.{Table, AreIds, Grows, trees}
use Rattle.ui_types.specs.Trees.{AreIds-grows, trees-grows}
use Rattle.ui_sets.specs.declared.fault.SetFault.{SetFault}
use Rattle.ui_sets.specs.declared.fault.SetFault.TheVariants.{Unfit as Unfits, TooBig, TooDeep}
use Rattle.ui_sets.specs.declared.fault.SetFault.TheVariants.{NoMemory}
use Rattle.ui_satisfy.specs.declared.marks.Marks.{Marks}
use Rattle.ui_satisfy.specs.Search.{Seen, Look, holds, fails, refused, Ends}

pub record AreMarks (table : Table) (m : Marks) : Type 0 where
  pub good : AreIds table m.good.keys
  pub bad : AreIds table m.bad.keys

abbrev pub seen : Table → Marks → Seen
seen table m = record { good = trees table m.good.keys; bad = trees table m.bad.keys }

-- what was there stays in front
pub record IsLonger (old new : List TypeId) : Type 0 where
  pub front : take (length old) new ≡ old
  pub longer : length old ≤ length new

-- the answer, with the marks made by then
abbrev pub found : Bool → Seen → Look
found true s = holds s
found false s = fails s

pub record IsFound (table : Table) (old new : Marks) (walk : ℕ → Look) (is : Bool) : Type 0 where
  pub marks : AreMarks table new
  pub longer : IsLonger old.good.keys new.good.keys
  pub ends : Ends walk (found is (seen table new))

abbrev pub IsRefused : (ℕ → Look) → SetFault → Type 0
IsRefused walk (Unfits u) = Ends walk (refused (Unfits u))
IsRefused walk TooBig = Ends walk (refused TooBig)
IsRefused walk TooDeep = Ends walk (refused TooDeep)
IsRefused walk NoMemory = Unit {0}

abbrev pub Looks : Table → Marks → Marks → (ℕ → Look) → Result Bool SetFault → Type 0
Looks table old new walk (Ok is) = IsFound table old new walk is
Looks table old new walk (Err e) = IsRefused walk e

-- ---- in a table that grows
pub AreMarks-grows : {t u : Table} (m : Marks) → Grows t u → AreMarks t m → AreMarks u m
AreMarks-grows m g h = record {
  good = AreIds-grows m.good.keys g h.good;
  bad = AreIds-grows m.bad.keys g h.bad;
}

pub seen-grows : {t u : Table} (m : Marks) → Grows t u → AreMarks t m → seen u m ≡ seen t m
seen-grows m g h = λ i. record {
  good = trees-grows m.good.keys g h.good i;
  bad = trees-grows m.bad.keys g h.bad i;
}

pub ruleset marks_grow = (AreMarks-grows, seen-grows)
