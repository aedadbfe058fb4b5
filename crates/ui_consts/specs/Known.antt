-- What is known of elements that were read. This project's own.
use Rattle.std.specs.Prelude.{◌≡◌, ℕ, ◌^◌, ◌<◌, List, length, true, false, ⊤}
use Rattle.std.specs.List.{AllByRecursion}
use Rattle.ui_eobj.specs.Values.{magnitude}
use Rattle.ui_eobj.specs.declared.root.BelowEl.{BelowEl}
use Rattle.ui_eobj.specs.declared.value.ValueEl.{ValueEl}
use Rattle.ui_eobj.specs.declared.value.ValueEl.TheVariants as value
use Rattle.ui_consts.specs.Record.{text_of}

-- a magnitude without a sign is below 2^127
abbrev pub IsSmallValue : List (List ℕ) → ValueEl → Type 0
IsSmallValue strings (value.Int64 z) = ⊤
IsSmallValue strings (value.Big k true) = ⊤
IsSmallValue strings (value.Big k false) = magnitude (text_of strings k) < 2 ^ 127

-- fingerprints have eight bytes
abbrev pub HavePrints : List (List ℕ) → List BelowEl → Type 0
HavePrints strings bs = AllByRecursion (λ b. length (text_of strings b.print) ≡ 8) bs
