use Rattle.std.proofs.Common.{◌≡◌, ◌-◌}
use Rattle.ui_strpos.specs.Reading.{entries_in}
use Rattle.ui_strpos.proofs.input.ElementIn.entries.Given as goal

abbrev pub invariant-entries : goal.invariant-entries
invariant-entries l = entries_in (l.count - l.counter) l.self ≡ entries_in l.count l.fn.self
