use Rattle.std.proofs.Common.{map, take}
use Rattle.ui_exports.specs.Linked.{below}
use Rattle.ui_consts.specs.Numbering.{NumbersBelow}
use Rattle.ui_consts.proofs.numbered.number_below.Given as goal

abbrev pub invariant-loop-below : goal.invariant-loop-below
invariant-loop-below l = NumbersBelow (map below (take l.below-index l.belows)) l.entries.items l.fn.strings.keys l.strings.keys
