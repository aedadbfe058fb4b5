use Rattle.ui_types.specs.Table.{IsId}
use Rattle.ui_type_tests.proofs.types.underlying_types.Given as goal

abbrev pub invariant-loop-kind : goal.invariant-loop-kind
invariant-loop-kind g l = record {
  arg : IsId l.table l.int;
  wanted : IsId l.table l.pointer × IsId l.table l.empty;
}
