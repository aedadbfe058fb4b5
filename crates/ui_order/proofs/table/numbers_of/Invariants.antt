use Rattle.std.proofs.Common.{◌≡◌, ◌<◌, ℕ, map, take, length, nat_eq, true, string_bytes}
use Rattle.ui_order.specs.Steps.{has}
use Rattle.ui_order.specs.Numbered.{path_at, names}
use Rattle.ui_order.proofs.table.numbers_of.Given as goal

abbrev pub invariant-loop-import : goal.invariant-loop-import
invariant-loop-import l = record { paths : map (path_at (names l.paths)) l.numbers.items ≡ map string_bytes (take l.import-index l.imports); small : (j : ℕ) → has nat_eq l.numbers.items j ≡ true → j < length (names l.paths) }
