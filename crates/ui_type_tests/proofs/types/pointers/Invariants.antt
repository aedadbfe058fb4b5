use Rattle.ui_types.specs.Table.{IsId, Grows}
use Rattle.ui_type_tests.proofs.types.pointers.Given as goal

abbrev pub invariant-loop : goal.invariant-loop
invariant-loop l = record { valid : IsId l.table l.made; grows : Grows l.initial.table l.table }
