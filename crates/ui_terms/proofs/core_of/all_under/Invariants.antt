use Rattle.std.proofs.Common.{◌≡◌, drop}
use Rattle.ui_types.specs.Table.{tree}
use Rattle.ui_terms.specs.Terms.{all_under}
use Rattle.ui_terms.specs.Reading.{shown_owns}
use Rattle.ui_terms.proofs.core_of.all_under.Given as goal

abbrev pub invariant-loop-term : goal.invariant-loop-term
invariant-loop-term l = all_under (tree l.table l.under)
    (shown_owns l.table (drop l.term-index l.terms))
    ≡ all_under (tree l.table l.under) (shown_owns l.table l.terms)
