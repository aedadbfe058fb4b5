-- The numbers of calls, and the list of those that fail. This project's own.
use Rattle.std.specs.Prelude.{ℕ, ◌+◌, ◌-◌, ◌^◌, Bool, nat_eq, min, List}
use Rattle.std.specs.List.{list_any}

-- one more, in 64 bits
abbrev pub next : ℕ → ℕ
next n = min (n + 1) (2 ^ 64 - 1)

-- whether the call of this number is to fail
abbrev pub is_due : List ℕ → ℕ → Bool
is_due fails number = list_any (λ n. nat_eq n number) fails
