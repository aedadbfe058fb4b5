use Rattle.std.proofs.Common.{◌≡◌, length, map}
use Rattle.ui_scan.specs.Table.{first_operator}
use Rattle.ui_scan.proofs.table.first_operator.Given as goal

abbrev pub invariant-loop-table : goal.invariant-loop-table
invariant-loop-table l = first_operator (map (λ e. (e.0.now, e.1)) l.table) l.bytes ≡ first_operator (map (λ e. (e.0.now, e.1)) l.initial.table) l.bytes

abbrev pub decreases-loop-table : goal.decreases-loop-table
decreases-loop-table l = length l.table
