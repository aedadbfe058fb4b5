-- Texts and their numbers, by the entries of the map that holds them. This project's own.
use Rattle.std.specs.Prelude.{ℕ, Bool, List, is_some, Vec}
use Rattle.std.specs.declared.alloc.Global.{Global}
use Rattle.std.specs.FinMap.{get}
use Rattle.ui_base.specs.Entries.{ByText, bytes_of, map_of}

abbrev pub Numbered : Type 0
Numbered = ByText ℕ

-- the text has a number
abbrev pub has : Numbered → List ℕ → Bool
has m text = is_some (get m text)

unfoldable pub numbers_of : List (Vec ℕ Global × ℕ) → Numbered
numbers_of es = map_of bytes_of (λ n. n) es
