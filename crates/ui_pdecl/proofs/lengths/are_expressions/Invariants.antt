use Rattle.std.proofs.Common.{◌≡◌, drop}
use Rattle.ui_pdecl.proofs.TypeTexts.{all_from}
use Rattle.ui_pdecl.proofs.lengths.are_expressions.Given as goal

abbrev pub invariant-loop-of : goal.invariant-loop-of
invariant-loop-of l = all_from l.all ≡ all_from (drop l.of-index l.all)
