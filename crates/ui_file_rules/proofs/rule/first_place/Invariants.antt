use Rattle.ui_file_rules.proofs.Places.{KeptBelow}
use Rattle.ui_file_rules.proofs.rule.first_place.Given as goal

abbrev pub invariant-loop-n : goal.invariant-loop-n
invariant-loop-n g l = KeptBelow (g.R.FileRule.keeps l.rule) (g.R.FileRule.count l.rule) l.n
