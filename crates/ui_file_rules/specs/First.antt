-- The first element that breaks a rule, by section and then by number.
use Rattle.std.specs.Prelude.{◌≡◌, ◌⊎◌, ℕ, ◌<◌, Option, Some, None, nat_eq, if◌then◌else◌}
use Rattle.ui_frame.specs.Sections.{number_of}
use Rattle.ui_frame.specs.declared.section.Section.{Section}
use Rattle.ui_frame.specs.declared.section.Section.TheVariants.{Str, Meta, PosBase, Pkg, Name, Types, Obj, ObjExt, ObjDict, Body}
use Rattle.ui_file_rules.specs.declared.rule.Place.{Place}

-- none of the first n numbers fails, or this is the first that does
abbrev pub FirstOf : (ℕ → Type 0) → ℕ → Option ℕ → Type 0
FirstOf P n None = (k : ℕ) → k < n → P k
FirstOf P n (Some i) = (i < n) × (P i → ⊥) × ((k : ℕ) → k < i → P k)

abbrev pub section_at : ℕ → Section
section_at n =
    if nat_eq n 0 then Str else if nat_eq n 1 then Meta else if nat_eq n 2 then PosBase else if
    nat_eq n 3 then Pkg else if nat_eq n 4 then Name
    else if nat_eq n 5 then Types else if nat_eq n 6 then Obj else if nat_eq n 7 then ObjExt else
    if nat_eq n 8 then ObjDict else Body

-- an element stands before another
abbrev pub Stands : Section → ℕ → Section → ℕ → Type 0
Stands s k t j = (number_of s < number_of t) ⊎ ((s ≡ t) × (k < j))

-- the first element that fails
pub record FirstPlace (keeps : Section → ℕ → Type 0) (count : Section → ℕ)
    (p : Place) : Type 0 where
  pub there : p.element < count p.section
  pub here : keeps p.section p.element → ⊥
  pub before : (s : Section) (k : ℕ) → k < count s → Stands s k p.section p.element → keeps s k

-- the first element that fails, or none does
abbrev pub Gives : (Section → ℕ → Type 0) → (Section → ℕ) → Option Place → Type 0
Gives keeps count None = (s : Section) (k : ℕ) → k < count s → keeps s k
Gives keeps count (Some p) = FirstPlace keeps count p
