-- What the entries of a map in memory stand for, whose keys are seen as texts. This project's own.
use Rattle.std.specs.Prelude.{ℕ, List, map, Vec}
use Rattle.std.specs.declared.alloc.Global.{Global}
use Rattle.std.specs.Ordering.{nat_cmp}
use Rattle.std.specs.Cmp.Lexicographic.{slice_cmp}
use Rattle.std.specs.FinMap.{FinMap, from_entries}

-- a finite map by texts
abbrev pub ByText : Type 0 → Type 0
ByText X = FinMap (slice_cmp nat_cmp) X

-- a key of bytes as a text
abbrev pub bytes_of : Vec ℕ Global → List ℕ
bytes_of k = k.items

module _ {K V X : Type 0} (text : K → List ℕ) (shown : V → X) where
  -- a key and a value, as they are seen
  abbrev pub entry_of : K × V → List ℕ × X
  entry_of e = (text e.0, shown e.1)

  abbrev pub map_of : List (K × V) → ByText X
  map_of es = from_entries (map entry_of es)
