use Rattle.ui_types.specs.Table.{trees}
use Rattle.ui_held.proofs.Graph.{AreHeld}
use Rattle.ui_held.proofs.first.first_infinite.Given as goal

abbrev pub invariant-loop-under : goal.invariant-loop-under
invariant-loop-under l = record {
  so_far : AreHeld l.names.keys (trees l.table l.unders) l.under-index l.links.items;
}
