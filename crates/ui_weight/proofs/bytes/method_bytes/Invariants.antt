use Rattle.std.proofs.Common.{◌≡◌, take}
use Rattle.std.specs.List.{sum_by}
use Rattle.ui_types.specs.declared.part.Method.{Method}
use Rattle.ui_weight.specs.Weight.{name_bytes, counted}
use Rattle.ui_weight.proofs.bytes.method_bytes.Given as goal

abbrev pub invariant-loop-method : goal.invariant-loop-method
invariant-loop-method l = record {
  so_far : l.count
      ≡ counted (sum_by (λ (m : Method). name_bytes m.name) (take l.method-index l.methods));
}
