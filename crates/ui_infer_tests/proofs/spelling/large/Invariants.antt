use Rattle.ui_types.specs.Table.{IsId, Grows}
use Rattle.ui_infer_tests.proofs.spelling.large.Given as goal

abbrev pub invariant-loop : goal.invariant-loop
invariant-loop l = record { id : IsId l.table l.made; grows : Grows l.initial.table l.table }
