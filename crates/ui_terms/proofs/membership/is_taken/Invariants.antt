use Rattle.std.proofs.Common.{◌≡◌, drop}
use Rattle.ui_terms.specs.Terms.{is_taken}
use Rattle.ui_terms.specs.Reading.{shown_terms, shown_own}
use Rattle.ui_terms.proofs.membership.is_taken.Given as goal

abbrev pub invariant-loop-term : goal.invariant-loop-term
invariant-loop-term l = is_taken (shown_terms l.table (drop l.term-index l.terms))
    (shown_own l.table l.own)
    ≡ is_taken (shown_terms l.table l.terms) (shown_own l.table l.own)
