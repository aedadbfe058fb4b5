-- Places in a file. This project's own.
use Rattle.std.specs.Prelude.{ℕ, ◌^◌, Bool, ◌&&◌, nat_le, nat_lt}
use Rattle.ui_base.specs.declared.value.Spot.{Spot}

-- lines and columns count from 1, and 32 bits hold them
abbrev pub is_count : ℕ → Bool
is_count n = nat_le 1 n && nat_lt n (2 ^ 32)

abbrev pub is_place : Spot → Bool
is_place s = is_count s.line && is_count s.col
