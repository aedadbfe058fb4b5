use Rattle.std.proofs.Common.{◌≡◌, ◌≤◌, ◌-◌, ◌++◌, length, drop, map}
use Rattle.ui_stray.specs.Links.{entries_at, target_number}
use Rattle.ui_stray.proofs.table.put_entries.Given as goal

abbrev pub invariant-loop : goal.invariant-loop
invariant-loop l = record {
  within : l.place ≤ length l.bytes;
  few : l.counter ≤ l.count;
  so_far : l.out.items ++ map (target_number l.starts)
      (entries_at (l.count - l.counter) (drop l.place l.bytes))
      ≡ l.initial.out.items ++ map (target_number l.starts)
      (entries_at l.count (drop l.at l.bytes));
}
