use Rattle.std.proofs.Common.{◌≡◌, take}
use Rattle.ui_types.specs.Ty.{sizes, depths}
use Rattle.ui_types.specs.Table.{parts, counted_size, counted_depth}
use Rattle.ui_types.specs.Entries.{trees_of}
use Rattle.ui_types.proofs.entries.parts_extent.Given as goal

abbrev pub invariant-loop-id : goal.invariant-loop-id
invariant-loop-id l = record {
  size_so_far : l.size ≡ counted_size (sizes (parts (trees_of l.entries.entries) (take l.id-index l.ids)));
  depth_so_far : l.depth ≡ counted_depth (depths (parts (trees_of l.entries.entries) (take l.id-index l.ids)));
}
