-- A package whose strings and files have numbers. This project's own.
use Rattle.std.specs.Prelude.{◌≡◌, ℕ, ◌*◌, ◌^◌, ◌<◌, ◌≤◌, List, [], ◌∷◌, ◌++◌, map, flat_map, length, true, false, bytes_eq, nat_eq, slice_index_or, pos, negsuc, ⊤}
use Rattle.std.specs.List.{AllByRecursion, Contains, IsDistinct, range_with_len}
use Rattle.std.specs.List.Sorted.{IsStrictlySortedBy}
use Rattle.std.specs.Ordering.{nat_cmp}
use Rattle.std.specs.Cmp.Lexicographic.{slice_cmp}
use Rattle.std.specs.FinMap.{from_entries}
use Rattle.ui_strpos.specs.Elements.{is_some_text}
use Rattle.ui_eobj.specs.Values.{is_big, magnitude}
use Rattle.ui_eobj.specs.declared.root.BelowEl.{BelowEl}
use Rattle.ui_eobj.specs.declared.value.ValueEl.{ValueEl}
use Rattle.ui_eobj.specs.declared.value.ValueEl.TheVariants as value
use Rattle.ui_exports.specs.Export.{Declaration, Declarations}
use Rattle.ui_exports.specs.Linked.{Below, Linked}
use Rattle.ui_consts.specs.Elements as elements
use Rattle.ui_consts.specs.Record.{Fits, below_uses, entry_uses, meaning, text_of}
use Rattle.ui_consts.specs.declared.numbered.Entry.{Entry}
use Rattle.ui_consts.specs.declared.numbered.Numbered.{Numbered}

abbrev pub entry : Entry → elements.Entry
entry e = record { name = e.name; base = e.base; line = e.line; column = e.column; value = e.value }

-- the elements that a numbered package is written as
abbrev pub elements_of : Numbered → elements.Elements
elements_of n = record {
  strings = n.strings.items;
  path = n.path;
  name = n.name;
  bases = n.bases.items;
  entries = map entry n.entries.items;
  order = range_with_len 0 (length n.entries.items);
  below = n.below.below;
}

-- ---- texts and their places

-- at most so many texts were added, none twice
pub record Grown (count : ℕ) (old new : List (List ℕ)) : Type 0 where
  pub more : List (List ℕ)
  pub grown : new ≡ old ++ more
  pub few : length more ≤ count
  pub short : AllByRecursion (λ text. length text ≤ 4096) more
  pub apart : IsDistinct bytes_eq old → IsDistinct bytes_eq new

pub record IsPlace (text : List ℕ) (place : ℕ) (strings : List (List ℕ)) : Type 0 where
  pub there : place < length strings
  pub is : text_of strings place ≡ text

-- each of the places from one number up to another is among these
abbrev pub Covers : List ℕ → ℕ → ℕ → Type 0
Covers places from to = (k : ℕ) → from ≤ k → k < to → Contains places k

-- ---- constants

-- the fields of a value
abbrev pub IsValueOf : List (List ℕ) → ValueEl → ℕ → Type 0
IsValueOf strings (value.Int64 (pos m)) n = (m ≡ n) × (m < 2 ^ 63)
IsValueOf strings (value.Int64 (negsuc m)) n = ⊥
IsValueOf strings (value.Big k true) n = ⊥
IsValueOf strings (value.Big k false) n = (k < length strings) × (is_big false (text_of strings k) ≡ true) × (magnitude (text_of strings k) ≡ n)

pub record IsEntryOf (strings : List (List ℕ)) (bases : List ℕ) (e : elements.Entry) (d : List ℕ × Declaration) : Type 0 where
  pub name : IsPlace d.0 e.name strings
  pub base : e.base < length bases
  pub file : IsPlace d.1.file (slice_index_or bases e.base 0) strings
  pub line : e.line ≡ d.1.line
  pub column : e.column ≡ d.1.column
  pub value : IsValueOf strings e.value d.1.value

abbrev pub AreEntries : List (List ℕ) → List ℕ → List elements.Entry → List (List ℕ × Declaration) → Type 0
AreEntries strings bases [] [] = ⊤
AreEntries strings bases [] (d ∷ ds) = ⊥
AreEntries strings bases (e ∷ es) [] = ⊥
AreEntries strings bases (e ∷ es) (d ∷ ds) = IsEntryOf strings bases e d × AreEntries strings bases es ds

-- the place of a file's name
abbrev pub IsFile : List (List ℕ) → ℕ → Type 0
IsFile strings file = (file < length strings) × (is_some_text (text_of strings file) ≡ true)

-- at most the file of a name was added
pub record GrownFiles (name : List ℕ) (strings : List (List ℕ)) (old new : List ℕ) : Type 0 where
  pub more : List ℕ
  pub grown : new ≡ old ++ more
  pub few : length more ≤ 1
  pub files : AllByRecursion (λ file. IsPlace name file strings) more

pub record NumbersConstants (ds : List (List ℕ × Declaration)) (es : List elements.Entry) (bases : List ℕ) (old new : List (List ℕ)) : Type 0 where
  pub texts : Grown (3 * length ds) old new
  pub entries : AreEntries new bases es ds
  pub files : AllByRecursion (IsFile new) bases
  pub few : length bases ≤ length ds
  pub apart : IsDistinct nat_eq bases
  pub used : Covers (bases ++ flat_map entry_uses es) (length old) (length new)
  pub files_used : Covers (map (λ e. e.base) es) 0 (length bases)

-- entries of a map, ascending by name
pub record IsMapOf (ds : List (List ℕ × Declaration)) (m : Declarations) : Type 0 where
  pub names : IsStrictlySortedBy (slice_cmp nat_cmp) (map (λ d. d.0) ds)
  pub whole : from_entries ds ≡ m

-- ---- packages below

pub record IsBelowOf (strings : List (List ℕ)) (b : BelowEl) (d : Below) : Type 0 where
  pub path : IsPlace d.path b.path strings
  pub print : IsPlace d.print b.print strings
  pub direct : b.direct ≡ d.direct

abbrev pub AreBelow : List (List ℕ) → List BelowEl → List Below → Type 0
AreBelow strings [] [] = ⊤
AreBelow strings [] (d ∷ ds) = ⊥
AreBelow strings (b ∷ bs) [] = ⊥
AreBelow strings (b ∷ bs) (d ∷ ds) = IsBelowOf strings b d × AreBelow strings bs ds

pub record NumbersBelow (ds : List Below) (bs : List BelowEl) (old new : List (List ℕ)) : Type 0 where
  pub texts : Grown (2 * length ds) old new
  pub below : AreBelow new bs ds
  pub used : Covers (flat_map below_uses bs) (length old) (length new)

-- ---- the whole

-- a numbered package is small, and its elements stand for what is to be written
pub record Numbers (n : Numbered) (l : Linked) : Type 0 where
  pub fits : Fits (elements_of n)
  pub means : meaning (elements_of n) ≡ l
  pub strings : length n.strings.items ≤ 2 ^ 14
  pub short : AllByRecursion (λ text. length text ≤ 4096) n.strings.items
  pub bases : length n.bases.items ≤ 4096
  pub few : length n.entries.items ≤ 4096
  pub below : length n.below.below ≤ 1024
