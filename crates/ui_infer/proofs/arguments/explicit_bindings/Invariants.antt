use Rattle.std.proofs.Common.{◌≡◌, ◌++◌, drop}
use Rattle.ui_types.specs.Table.{Table, AreIds, trees}
use Rattle.ui_infer.specs.Bindings.{numbered}
use Rattle.ui_infer.specs.Shown.{AreBindings, shown_bindings}
use Rattle.ui_infer.proofs.arguments.explicit_bindings.Given as goal

abbrev pub invariant-loop-k : goal.invariant-loop-k
invariant-loop-k l = record {
  valid : (table : Table) → AreIds table l.explicit → AreBindings table l.bindings.items;
  value : (table : Table) → shown_bindings table l.bindings.items
      ++ numbered l.k (trees table (drop l.k l.explicit)) ≡ numbered 0 (trees table l.explicit);
}
