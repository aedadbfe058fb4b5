use Rattle.std.proofs.Common.{◌≡◌, ◌<◌, ℕ, None, drop, length}
use Rattle.ui_infer.specs.Shown.{AreKnown, known_at, shown_bindings, shown_known}
use Rattle.ui_infer.proofs.KnownLemmas.{noted}
use Rattle.ui_infer.proofs.known.known_of.Given as goal

abbrev pub invariant-loop-entry : goal.invariant-loop-entry
invariant-loop-entry l = record {
  many : length l.known.items ≡ l.count;
  valid : AreKnown l.table l.known.items;
  value : (k : ℕ) → k < l.count
      → noted k (shown_known l.table (known_at l.known.items k))
      (shown_bindings l.table (drop l.entry-index l.entries))
      ≡ noted k (shown_known l.table (record { first = None; other = None }))
      (shown_bindings l.table l.entries);
}
