use Rattle.ui_type_rules.proofs.Extents.{AreDone}
use Rattle.ui_type_rules.proofs.limit_rule.first_past.Given as goal

abbrev pub invariant-loop-k : goal.invariant-loop-k
invariant-loop-k l = AreDone l.types l.done.items l.k
