use Rattle.std.proofs.Common.{◌≡◌, map, take}
use Rattle.ui_order.specs.Tables.{texts}
use Rattle.ui_order.specs.Numbered.{names, path_at}
use Rattle.ui_order.proofs.order.paths_of.Given as goal

abbrev pub invariant-loop-number : goal.invariant-loop-number
invariant-loop-number l = texts l.found ≡ map (path_at (names l.paths)) (take l.number-index l.numbers)
