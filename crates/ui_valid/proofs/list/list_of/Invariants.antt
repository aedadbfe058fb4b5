use Rattle.std.proofs.Common.{◌≡◌, map, take}
use Rattle.ui_exports.specs.Linked.{below}
use Rattle.ui_valid.specs.Record.{below_of}
use Rattle.ui_valid.proofs.list.list_of.Given as goal

abbrev pub invariant-loop-k : goal.invariant-loop-k
invariant-loop-k l = map below l.list.items ≡ map (below_of l.texts) (take l.k l.els)
