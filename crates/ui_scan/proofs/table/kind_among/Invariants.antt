use Rattle.std.proofs.Common.{◌≡◌, length, map}
use Rattle.ui_scan.specs.Table.{spelled}
use Rattle.ui_scan.proofs.table.kind_among.Given as goal

abbrev pub invariant-loop-table : goal.invariant-loop-table
invariant-loop-table l = spelled (map (λ e. (e.0.now, e.1)) l.table) l.word ≡ spelled (map (λ e. (e.0.now, e.1)) l.initial.table) l.word

abbrev pub decreases-loop-table : goal.decreases-loop-table
decreases-loop-table l = length l.table
