use Rattle.ui_infer.specs.Shown.{AreCores}
use Rattle.ui_infer_tests.proofs.inference.put_cores.Given as goal

abbrev pub invariant-loop-t : goal.invariant-loop-t
invariant-loop-t l = AreCores l.table l.cores.items
