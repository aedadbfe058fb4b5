use Rattle.std.proofs.Common.{◌≡◌, ◌+◌, ◌*◌, take}
use Rattle.ui_types.specs.Ty.{size, sizes, depths, substs}
use Rattle.ui_types.specs.Table.{tree, trees, parts, Grows, DenoteAll, counted_size, counted_depth}
use Rattle.ui_types.specs.Made.{AreWithinLimits, IsMemo}
use Rattle.ui_types.proofs.substitute.+substituted.Given as goal

abbrev pub decreases-substituted : goal.decreases-substituted
decreases-substituted l = 3 * size (tree l.table.now l.t) + 1

abbrev pub decreases-substituted_anew : goal.decreases-substituted_anew
decreases-substituted_anew l = 3 * size (tree l.table.now l.t)

abbrev pub decreases-all_substituted : goal.decreases-all_substituted
decreases-all_substituted l = 3 * sizes (parts l.table.now l.ids.now) + 2

abbrev pub invariant-all_substituted-loop-id : goal.invariant-all_substituted-loop-id
invariant-all_substituted-loop-id l = record {
  grows : Grows l.initial.table l.table;
  memo : IsMemo l.table (trees l.initial.table l.args) l.memo;
  size_so_far : l.size ≡ counted_size (sizes (substs (trees l.initial.table l.args) (parts l.initial.table (take l.id-index l.ids))));
  depth_so_far : l.depth ≡ counted_depth (depths (substs (trees l.initial.table l.args) (parts l.initial.table (take l.id-index l.ids))));
  there : AreWithinLimits (substs (trees l.initial.table l.args) (parts l.initial.table (take l.id-index l.ids))) → DenoteAll l.table (substs (trees l.initial.table l.args) (parts l.initial.table (take l.id-index l.ids))) l.made.items;
}
