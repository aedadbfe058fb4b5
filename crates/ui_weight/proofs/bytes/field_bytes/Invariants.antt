use Rattle.std.proofs.Common.{◌≡◌, take}
use Rattle.std.specs.List.{sum_by}
use Rattle.ui_types.specs.declared.part.Field.{Field}
use Rattle.ui_weight.specs.Weight.{name_bytes, counted}
use Rattle.ui_weight.proofs.bytes.field_bytes.Given as goal

abbrev pub invariant-loop-field : goal.invariant-loop-field
invariant-loop-field l = record {
  so_far : l.count
      ≡ counted (sum_by (λ (f : Field). name_bytes f.name) (take l.field-index l.fields));
}
