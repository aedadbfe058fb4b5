use Rattle.std.proofs.Common.{◌+◌, ◌*◌}
use Rattle.ui_types.specs.declared.part.Field.{Field}
use Rattle.ui_types.specs.Ty.{size, sizes}
use Rattle.ui_types.specs.Table.{tree, parts_by}
use Rattle.ui_held.specs.Walk.{Looks}
use Rattle.ui_held.proofs.Lists.{front}
use Rattle.ui_held.proofs.held.+look.Given as goal

abbrev pub decreases-look : goal.decreases-look
decreases-look l = 3 * size (tree l.table.now l.t) + 1

abbrev pub decreases-look_inside : goal.decreases-look_inside
decreases-look_inside l = 3 * size (tree l.table.now l.t)

abbrev pub decreases-look_fields : goal.decreases-look_fields
decreases-look_fields l = 3 * sizes (parts_by (λ (f : Field). f.ty) l.table.now l.fields.now) + 2

abbrev pub invariant-look_fields-loop-field : goal.invariant-look_fields-loop-field
invariant-look_fields-loop-field l = record {
  so_far : Looks l.table l.names.keys (front l.table l.fields l.field-index) l.initial.walk l.walk;
}
