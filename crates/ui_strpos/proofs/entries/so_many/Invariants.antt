use Rattle.std.proofs.Common.{◌≡◌, ◌-◌, None}
use Rattle.std.specs.Prelude.{IfSome}
use Rattle.ui_strpos.specs.Format.{times_by}
use Rattle.ui_strpos.specs.Lists.{with_front}
use Rattle.ui_strpos.specs.EntryLists.{last_of}
use Rattle.ui_strpos.proofs.entries.so_many.Given as goal

abbrev pub invariant-entries : goal.invariant-entries
invariant-entries g l = record {
  so_far : with_front l.list.items (times_by g.T.ListEntry.form (last_of l.list.items) (l.count - l.counter) l.input) ≡ times_by g.T.ListEntry.form None l.count l.fn.input;
  context : l.input.context ≡ l.fn.input.context;
  last : IfSome (last_of l.list.items) (g.T.ListEntry.known l.input.context);
}
