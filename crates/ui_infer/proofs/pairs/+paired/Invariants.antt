use Rattle.std.proofs.Common.{◌≡◌, ◌+◌, ◌*◌, ◌&&◌, ◌++◌, drop}
use Rattle.ui_types.specs.Ty.{size, sizes}
use Rattle.ui_types.specs.Table.{tree, parts}
use Rattle.ui_infer.specs.Pairs.{are_alike, bindings_of, pairs_all}
use Rattle.ui_infer.specs.Shown.{AreBindings, shown_bindings}
use Rattle.ui_infer.proofs.pairs.+paired.Given as goal

abbrev pub decreases-paired : goal.decreases-paired
decreases-paired l = 2 * size (tree l.table.now l.formal)

abbrev pub decreases-all_paired : goal.decreases-all_paired
decreases-all_paired l = 2 * sizes (parts l.table.now l.formals.now) + 1

abbrev pub invariant-all_paired-loop-k : goal.invariant-all_paired-loop-k
invariant-all_paired-loop-k l = record {
  valid : AreBindings l.table l.bindings.items;
  bindings : shown_bindings l.table l.bindings.items
      ++ bindings_of (pairs_all l.count (parts l.table (drop l.k l.formals))
      (parts l.table (drop l.k l.actuals)))
      ≡ shown_bindings l.table l.initial.bindings.items
      ++ bindings_of (pairs_all l.count (parts l.table l.formals) (parts l.table l.actuals));
  alike : (l.alike && are_alike (pairs_all l.count (parts l.table (drop l.k l.formals))
      (parts l.table (drop l.k l.actuals)))) ≡ are_alike
      (pairs_all l.count (parts l.table l.formals) (parts l.table l.actuals));
}
