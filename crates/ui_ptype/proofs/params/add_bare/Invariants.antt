use Rattle.std.proofs.Common.{◌≡◌, ◌++◌, map}
use Rattle.ui_tree.specs.View.{group_with, type_view}
use Rattle.ui_syntax.specs.Types.{as_types}
use Rattle.ui_ptype.proofs.params.add_bare.Given as goal

abbrev pub invariant-loop-name : goal.invariant-loop-name
invariant-loop-name l = map (group_with type_view) l.groups ≡ map (group_with type_view) l.fn.groups ++ as_types l.yielded
