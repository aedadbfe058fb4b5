use Rattle.std.proofs.Common.{◌≡◌, ◌++◌, drop, length}
use Rattle.ui_types.specs.Table.{Grows, trees}
use Rattle.ui_infer.specs.Bindings.{constants}
use Rattle.ui_infer.specs.Shown.{AreBindings, is_known, is_set, shown_actuals, shown_bindings}
use Rattle.ui_infer.proofs.constants.constants_beside.Given as goal

abbrev pub invariant-loop-j : goal.invariant-loop-j
invariant-loop-j l = record {
  grows : Grows l.initial.table l.table;
  valid : AreBindings l.table l.entries.items;
  value : shown_bindings l.table l.entries.items
      ++ constants (length l.runes) (is_known l.known) (is_set l.runes)
      (shown_actuals l.initial.table (drop l.j l.actuals))
      (trees l.initial.table (drop l.j l.formals))
      ≡ constants (length l.runes) (is_known l.known) (is_set l.runes)
      (shown_actuals l.initial.table l.actuals) (trees l.initial.table l.formals);
}
