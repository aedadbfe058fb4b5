use Rattle.std.proofs.Common.{◌≡◌, drop}
use Rattle.ui_terms.specs.Terms.{first_one}
use Rattle.ui_terms.specs.Reading.{shown_unions}
use Rattle.ui_terms.proofs.core_of.first_one.Given as goal

abbrev pub invariant-loop-union : goal.invariant-loop-union
invariant-loop-union l = first_one (shown_unions l.table (drop l.union-index l.unions))
    ≡ first_one (shown_unions l.table l.unions)
