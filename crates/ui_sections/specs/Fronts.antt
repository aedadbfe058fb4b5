-- A place after some bytes, by what stands there.
use Rattle.std.specs.Prelude.{◌≡◌, ℕ, List, drop, Result, Ok, Err}
use Rattle.ui_frame.specs.declared.number.NumFault.{NumFault}

abbrev pub IsAfter : List ℕ → Result ℕ NumFault → Result (List ℕ) NumFault → Type 0
IsAfter bytes (Ok place) read = read ≡ Ok (drop place bytes)
IsAfter bytes (Err e) read = read ≡ Err e
