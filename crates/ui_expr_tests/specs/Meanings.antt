-- Names whose meanings have ids of a table.
use Rattle.std.specs.Prelude.{ℕ, List, IfSome}
use Rattle.ui_types.specs.Table.{Table}
use Rattle.ui_scopes.specs.Scopes.{Binds, IsMeaning, find_in}

unfoldable pub IsLevel : Table → Binds → Type 0
IsLevel table l = (n : List ℕ) → IfSome (find_in l n) (IsMeaning table)
