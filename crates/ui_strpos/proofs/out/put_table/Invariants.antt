use Rattle.std.proofs.Common.{◌≡◌, ◌++◌, length, take}
use Rattle.std.specs.List.{flat_map}
use Rattle.ui_frame.specs.Number.{uint}
use Rattle.ui_strpos.specs.Items.{entry}
use Rattle.ui_strpos.proofs.out.put_table.Given as goal

abbrev pub invariant-loop-target : goal.invariant-loop-target
invariant-loop-target l = l.out.items ≡ l.fn.out.items ++ (uint (length l.table) ++ flat_map entry (take l.target-index l.table))
