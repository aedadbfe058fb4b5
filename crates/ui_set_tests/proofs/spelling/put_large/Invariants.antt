use Rattle.ui_types.specs.Table.{IsId, Grows}
use Rattle.ui_set_tests.proofs.spelling.put_large.Given as goal

abbrev pub invariant-loop : goal.invariant-loop
invariant-loop l = record { id : IsId l.table l.last; grows : Grows l.initial.table l.table }
