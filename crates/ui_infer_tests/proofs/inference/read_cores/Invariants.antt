use Rattle.ui_types.specs.Table.{Grows}
use Rattle.ui_infer.specs.Shown.{AreCores}
use Rattle.ui_infer_tests.proofs.inference.read_cores.Given as goal

abbrev pub invariant-loop-word : goal.invariant-loop-word
invariant-loop-word l = record {
  cores : AreCores l.table l.cores.items;
  grows : Grows
      l.initial.table l.table;
}
