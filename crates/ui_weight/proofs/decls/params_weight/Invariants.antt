use Rattle.std.proofs.Common.{◌≡◌, take}
use Rattle.std.specs.List.{sum_by}
use Rattle.ui_types.specs.Decls.{shown_params}
use Rattle.ui_weight.specs.Weight.{param_weight, counted}
use Rattle.ui_weight.specs.Parts.{IsMemo}
use Rattle.ui_weight.proofs.decls.params_weight.Given as goal

abbrev pub invariant-loop-param : goal.invariant-loop-param
invariant-loop-param l = record {
  so_far : l.count
      ≡ counted (sum_by param_weight (shown_params l.table (take l.param-index l.params)));
  memo : IsMemo l.table l.memo;
}
