-- What a step of the scanner does.
use Rattle.std.specs.Prelude.{◌≡◌, ℕ, ◌+◌, ◌-◌, ◌^◌, ◌<◌, ◌≤◌, List, length, Option, Result, Ok, Err, Vec}
use Rattle.ui_scan.specs.Scan.{Outcome, outcome, first, rest}
use Rattle.ui_scan.specs.declared.place.Place.{Place}
use Rattle.ui_scan.specs.declared.scanner.Found.{Found}
use Rattle.ui_scan.specs.declared.scanner.TokensFault.{TokensFault}
use Rattle.ui_scan.specs.declared.scanner.TokensFault.TheVariants.{Scan, NoMemory}
use Rattle.std.specs.declared.alloc.Global.{Global}
use Rattle.ui_scan.specs.declared.kind.Token.{Token}
use Rattle.ui_scan.specs.declared.kind.ScanKind.{ScanKind}
use Rattle.ui_scan.specs.declared.kind.ScanFault.{ScanFault}

-- a place in a text that is short enough for lines and columns of 32 bits
pub record IsAt (text : List ℕ) (p : Place) : Type 0 where
  pub within : p.at ≤ length text
  pub short : length text < 2 ^ 32 - 1
  pub line : p.line ≤ 1 + p.at
  pub col : p.col ≤ 1 + p.at

-- what the outcome gives first, and what is left of it behind that
abbrev pub Steps : List ℕ → Option ScanKind → Outcome → Result Found ScanFault → Type 0
Steps text fault old (Ok found) = (first old ≡ Ok found.token) × (outcome text fault found.state.due found.state.place ≡ rest old)
Steps text fault old (Err e) = (first old ≡ Err e) × (rest old ≡ old)

-- these tokens are found, or this fault, unless memory runs out
abbrev pub GivesAll : Result (List Token) ScanFault → Result (Vec Token Global) TokensFault → Type 0
GivesAll want (Ok found) = want ≡ Ok found.items
GivesAll want (Err (Scan fault)) = want ≡ Err fault
GivesAll want (Err NoMemory) = Unit {0}
