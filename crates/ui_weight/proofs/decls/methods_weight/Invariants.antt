use Rattle.std.proofs.Common.{◌≡◌, take}
use Rattle.std.specs.List.{sum_by}
use Rattle.ui_types.specs.Decls.{shown_methods}
use Rattle.ui_weight.specs.Weight.{method_weight, counted}
use Rattle.ui_weight.specs.Parts.{IsMemo}
use Rattle.ui_weight.proofs.decls.methods_weight.Given as goal

abbrev pub invariant-loop-method : goal.invariant-loop-method
invariant-loop-method l = record {
  so_far : l.count
      ≡ counted (sum_by method_weight (shown_methods l.table (take l.method-index l.methods)));
  memo : IsMemo l.table l.memo;
}
