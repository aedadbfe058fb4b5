use Rattle.std.proofs.Common.{◌≡◌, map, take}
use Rattle.ui_tree.specs.View.{placed, forgotten}
use Rattle.ui_tree.proofs.same.same_names.Given as goal

-- the names before i are the same
abbrev pub invariant-loop-i : goal.invariant-loop-i
invariant-loop-i l = map (placed forgotten) (take l.i l.a) ≡ map (placed forgotten) (take l.i l.b)
