use Rattle.std.proofs.Common.{◌≡◌, ◌-◌, ◌*◌, ◌+◌}
use Rattle.ui_strpos.specs.Format.{times}
use Rattle.ui_strpos.specs.Lists.{with_front}
use Rattle.ui_eexpr.specs.Exprs.{expression, sel_value, indexed_value, entry}
use Rattle.ui_eread.proofs.read.+expr.Given as goal

abbrev pub decreases-get_expression : goal.decreases-get_expression
decreases-get_expression l = 8 * l.depth

abbrev pub decreases-get_boxed : goal.decreases-get_boxed
decreases-get_boxed l = 8 * l.depth + 1

abbrev pub decreases-get_two : goal.decreases-get_two
decreases-get_two l = 8 * l.depth + 2

abbrev pub decreases-get_maybe : goal.decreases-get_maybe
decreases-get_maybe l = 8 * l.depth + 2

abbrev pub decreases-get_slice : goal.decreases-get_slice
decreases-get_slice l = 8 * l.depth + 3

abbrev pub decreases-get_called : goal.decreases-get_called
decreases-get_called l = 8 * l.depth + 4

abbrev pub decreases-get_expressions : goal.decreases-get_expressions
decreases-get_expressions l = 8 * l.depth + 1

abbrev pub decreases-get_sel_value : goal.decreases-get_sel_value
decreases-get_sel_value l = 8 * l.depth + 1

abbrev pub decreases-get_sel_values : goal.decreases-get_sel_values
decreases-get_sel_values l = 8 * l.depth + 2

abbrev pub decreases-get_indexed_value : goal.decreases-get_indexed_value
decreases-get_indexed_value l = 8 * l.depth + 1

abbrev pub decreases-get_indexed_values : goal.decreases-get_indexed_values
decreases-get_indexed_values l = 8 * l.depth + 2

abbrev pub decreases-get_entry : goal.decreases-get_entry
decreases-get_entry l = 8 * l.depth + 3

abbrev pub decreases-get_entries : goal.decreases-get_entries
decreases-get_entries l = 8 * l.depth + 4

abbrev pub decreases-get_parts : goal.decreases-get_parts
decreases-get_parts l = 8 * l.depth + 6

abbrev pub decreases-get_lists : goal.decreases-get_lists
decreases-get_lists l = 8 * l.depth + 6

abbrev pub decreases-get_tests : goal.decreases-get_tests
decreases-get_tests l = 8 * l.depth + 6

abbrev pub decreases-get_layer : goal.decreases-get_layer
decreases-get_layer l = 8 * l.depth + 7

abbrev pub invariant-get_expressions-items : goal.invariant-get_expressions-items
invariant-get_expressions-items l = record {
  so_far : with_front l.list.items (times (expression l.locals l.depth) (l.count - l.counter) l.input)
      ≡ times (expression l.locals l.depth) l.count l.initial.input;
  context : l.input.context ≡ l.fn.input.context;
}

abbrev pub invariant-get_sel_values-items : goal.invariant-get_sel_values-items
invariant-get_sel_values-items l = record {
  so_far : with_front l.list.items (times (sel_value (expression l.locals l.depth)) (l.count - l.counter) l.input)
      ≡ times (sel_value (expression l.locals l.depth)) l.count l.initial.input;
  context : l.input.context ≡ l.fn.input.context;
}

abbrev pub invariant-get_indexed_values-items : goal.invariant-get_indexed_values-items
invariant-get_indexed_values-items l = record {
  so_far : with_front l.list.items (times (indexed_value (expression l.locals l.depth)) (l.count - l.counter) l.input)
      ≡ times (indexed_value (expression l.locals l.depth)) l.count l.initial.input;
  context : l.input.context ≡ l.fn.input.context;
}

abbrev pub invariant-get_entries-items : goal.invariant-get_entries-items
invariant-get_entries-items l = record {
  so_far : with_front l.list.items (times (entry (expression l.locals l.depth)) (l.count - l.counter) l.input)
      ≡ times (entry (expression l.locals l.depth)) l.count l.initial.input;
  context : l.input.context ≡ l.fn.input.context;
}
