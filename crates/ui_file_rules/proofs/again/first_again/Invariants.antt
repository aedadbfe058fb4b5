use Rattle.ui_file_rules.specs.Seen.{seen_of}
use Rattle.ui_file_rules.proofs.Seeing.{AreSeen}
use Rattle.ui_file_rules.proofs.again.first_again.Given as goal

abbrev pub invariant-loop-k : goal.invariant-loop-k
invariant-loop-k g l = AreSeen l.items (seen_of l.seen.keys) l.k
