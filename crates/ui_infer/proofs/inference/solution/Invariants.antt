use Rattle.std.proofs.Common.{◌≡◌, ◌++◌, drop, Ok}
use Rattle.ui_types.specs.Table.{AreIds, trees}
use Rattle.ui_infer.specs.Faults.{◌>>=◌}
use Rattle.ui_infer.specs.Bindings.{solution}
use Rattle.ui_infer.specs.Shown.{all_known}
use Rattle.ui_infer.proofs.inference.solution.Given as goal

abbrev pub invariant-loop-k : goal.invariant-loop-k
invariant-loop-k l = record {
  valid : AreIds l.table l.ids.items;
  value : (solution l.k (all_known l.table (drop l.k l.known))
      >>= λ ts. Ok (trees l.table l.ids.items ++ ts)) ≡ solution 0 (all_known l.table l.known);
}
