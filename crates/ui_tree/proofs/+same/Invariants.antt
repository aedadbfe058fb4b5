use Rattle.std.proofs.Common.{◌≡◌, map, take}
use Rattle.ui_tree.specs.View.{shape, type_shape}
use Rattle.ui_tree.proofs.Pairs.{group_shape}
use Rattle.ui_tree.proofs.+same.Given as goal

-- those before i are the same
abbrev pub invariant-same::same_trees-loop-i : goal.invariant-same::same_trees-loop-i
invariant-same::same_trees-loop-i l = map shape (take l.i l.a) ≡ map shape (take l.i l.b)

abbrev pub invariant-same::same_types-loop-i : goal.invariant-same::same_types-loop-i
invariant-same::same_types-loop-i l = map type_shape (take l.i l.a) ≡ map type_shape (take l.i l.b)

abbrev pub invariant-same::same_groups-loop-i : goal.invariant-same::same_groups-loop-i
invariant-same::same_groups-loop-i l = map group_shape (take l.i l.a) ≡ map group_shape (take l.i l.b)
