use Rattle.std.proofs.Common.{◌≡◌, ◌≤◌, ◌-◌, length, drop}
use Rattle.ui_file.specs.Files as files
use Rattle.ui_sections.proofs.params.after_entries.Given as goal

abbrev pub invariant-loop : goal.invariant-loop
invariant-loop l = record {
  within : l.place ≤ length l.bytes;
  few : l.counter ≤ l.count;
  rest : files.after_entries (l.count - l.counter) (drop l.place l.bytes)
      ≡ files.after_entries l.count (drop l.at l.bytes);
}
