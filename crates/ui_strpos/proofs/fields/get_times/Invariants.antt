use Rattle.std.proofs.Common.{◌≡◌, ◌-◌}
use Rattle.ui_strpos.specs.Format.{times}
use Rattle.ui_strpos.specs.Lists.{with_front}
use Rattle.ui_strpos.proofs.fields.get_times.Given as goal

abbrev pub invariant-items : goal.invariant-items
invariant-items g l = record {
  so_far : with_front l.list.items (times g.T.Fields.form (l.count - l.counter) l.input) ≡ times g.T.Fields.form l.count l.fn.input;
  context : l.input.context ≡ l.fn.input.context;
}
