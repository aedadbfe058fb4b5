use Rattle.std.proofs.Common.{◌≡◌, ◌++◌, map, string_bytes}
use Rattle.std.specs.BTreeMap as tree
use Rattle.ui_order.proofs.table.numbered.Given as goal

abbrev pub invariant-loop-path : goal.invariant-loop-path
invariant-loop-path l = map string_bytes l.paths.keys ++ map string_bytes l.path-iterator ≡ map string_bytes (tree.keys l.read)
