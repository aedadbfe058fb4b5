use Rattle.std.proofs.Common.{◌≡◌, ◌<◌, ◌||◌, ℕ, drop, length}
use Rattle.ui_types.specs.Table.{trees}
use Rattle.ui_infer.specs.Bindings.{has_rune}
use Rattle.ui_infer.specs.Shown.{is_set, shown_actuals}
use Rattle.ui_infer.proofs.constants.runes.Given as goal

abbrev pub invariant-loop-j : goal.invariant-loop-j
invariant-loop-j l = record {
  many : length l.found.items ≡ l.count;
  value : (k : ℕ) → k < l.count
      → (is_set l.found.items k || has_rune l.count k (shown_actuals l.table (drop l.j l.actuals))
      (trees l.table (drop l.j l.formals)))
      ≡ has_rune l.count k (shown_actuals l.table l.actuals) (trees l.table l.formals);
}
