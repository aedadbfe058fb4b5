use Rattle.ui_types.specs.Table.{IsId}
use Rattle.ui_type_tests.proofs.types.each_kind.Given as goal

abbrev pub invariant-loop-kind : goal.invariant-loop-kind
invariant-loop-kind g l = record {
  params : IsId l.table l.first × IsId l.table l.second;
  types : IsId l.table l.int × IsId l.table l.text;
}
