use Rattle.std.proofs.Common.{◌≡◌, drop}
use Rattle.ui_types.specs.Table.{Table}
use Rattle.ui_infer.specs.Bindings.{first_twice}
use Rattle.ui_infer.specs.Shown.{all_known}
use Rattle.ui_infer.proofs.inference.first_twice.Given as goal

abbrev pub invariant-loop-k : goal.invariant-loop-k
invariant-loop-k l = (table : Table) → first_twice l.k (all_known table (drop l.k l.known))
    ≡ first_twice 0 (all_known table l.known)
