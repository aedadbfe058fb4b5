use Rattle.std.proofs.Common.{map}
use Rattle.ui_consts.specs.Numbering.{NumbersConstants, entry}
use Rattle.ui_consts.proofs.NumberingLemmas.{shown}
use Rattle.ui_consts.proofs.numbered.number_constants.Given as goal

abbrev pub invariant-loop-text : goal.invariant-loop-text
invariant-loop-text l = NumbersConstants (map shown l.yielded) (map entry l.entries.items) l.bases.keys l.fn.strings.keys l.strings.keys
