use Rattle.std.proofs.Common.{◌≡◌, drop}
use Rattle.ui_terms.specs.Terms.{is_one_taken}
use Rattle.ui_terms.specs.Reading.{shown_terms, shown_unions}
use Rattle.ui_terms.proofs.membership.is_one_taken.Given as goal

abbrev pub invariant-loop-union : goal.invariant-loop-union
invariant-loop-union l = is_one_taken (shown_terms l.table l.terms)
    (shown_unions l.table (drop l.union-index l.unions))
    ≡ is_one_taken (shown_terms l.table l.terms) (shown_unions l.table l.unions)
