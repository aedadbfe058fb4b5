use Rattle.std.proofs.Common.{◌≡◌, map, filter_map}
use Rattle.ui_below.specs.Holding.{entry_of}
use Rattle.ui_below.specs.Join.{stale_in}
use Rattle.ui_below.proofs.lists.stale_in.Given as goal

abbrev pub invariant-loop-path : goal.invariant-loop-path
invariant-loop-path l =
    (goal.iterator-loop-path).can_next l.path-iterator ×
    (goal.iterator-loop-path).is_finite l.path-iterator ×
    (filter_map stale_in (map entry_of l.path-iterator) ≡ filter_map stale_in (map entry_of l.by_path.entries))
