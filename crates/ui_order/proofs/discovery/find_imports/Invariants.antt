use Rattle.std.proofs.Common.{◌≡◌, List, map, take, string_bytes}
use Rattle.std.specs.FinMap.{insert}
use Rattle.ui_order.specs.Found.{Text, with_unread}
use Rattle.ui_order.specs.Tables.{paths_of, graph_of}
use Rattle.ui_order.proofs.discovery.find_imports.Given as goal

abbrev pub invariant-loop-import : goal.invariant-loop-import
invariant-loop-import l = (own : List Text) → paths_of l.unread.keys ≡ with_unread (insert (graph_of l.read.entries) l.path own) (paths_of l.initial.unread.keys) (map string_bytes (take l.import-index l.imports))
