-- What a read from a source does to the bytes left, and to the piece. This project's own.
use Rattle.std.specs.Prelude.{◌≡◌, ℕ, ◌<◌, ◌≤◌, ◌↔◌, List, [], length, take, Option, Result, Ok, Err}
use Rattle.ui_store.specs.Told.{less}

-- as many bytes are taken from the front as the result says; none at a fault
abbrev pub Takes : {E : Type 0} → Result ℕ E → Option (List ℕ) → Option (List ℕ) → Type 0
Takes (Ok n) old new = new ≡ less old n
Takes (Err e) old new = new ≡ old

-- the first n of the bytes left stand at the front of the piece; none only at the end
pub record Moves (bytes piece : List ℕ) (n : ℕ) : Type 0 where
  pub there : n ≤ length bytes
  pub moved : take n piece ≡ take n bytes
  pub ended : 0 < length piece → (n ≡ 0) ↔ (bytes ≡ [])
