use Rattle.std.proofs.Common.{◌≡◌, drop}
use Rattle.ui_terms.specs.Terms.{are_all_taken}
use Rattle.ui_terms.specs.Reading.{shown_terms, shown_owns}
use Rattle.ui_terms.proofs.membership.are_all_taken.Given as goal

abbrev pub invariant-loop-own : goal.invariant-loop-own
invariant-loop-own l = are_all_taken (shown_terms l.table l.terms)
    (shown_owns l.table (drop l.own-index l.owns))
    ≡ are_all_taken (shown_terms l.table l.terms) (shown_owns l.table l.owns)
