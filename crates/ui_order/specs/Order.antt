-- The build order, and cycles of imports. Go specification, "Import declarations": no package imports itself, directly
-- or indirectly. The order is this project's own.
use Rattle.std.specs.Prelude.{Bool, List, [], Option, Some, None, find, bytes_eq}
use Rattle.std.specs.FinMap.{keys, len}
use Rattle.ui_order.specs.Steps.{order_from, reaches, Leads}
use Rattle.ui_order.specs.Found.{Text, Graph, imports_of}

-- repeatedly the least path whose imports are all taken
unfoldable pub build_order : Graph → List Text
build_order graph = order_from bytes_eq (imports_of graph) (len graph) (keys graph) []

-- a list of imports leads from the path to itself
abbrev pub IsOnCycle : Graph → Text → Type 0
IsOnCycle graph path = Leads bytes_eq (imports_of graph) path path

-- the same, computed: as many imports as the graph has paths are enough
unfoldable pub on_cycle : Graph → Text → Bool
on_cycle graph path = reaches bytes_eq (imports_of graph) (len graph) (imports_of graph path) path

-- the least path on a cycle
unfoldable pub least_on_cycle : Graph → Option Text
least_on_cycle graph = find (on_cycle graph) (keys graph)

-- a cycle, named by a path on it, or paths in an order
pub data Arrangement : Type 0 where
  cycle : Text → Arrangement
  paths : List Text → Arrangement

abbrev pub cycle_or : List Text → Option Text → Arrangement
cycle_or order (Some path) = cycle path
cycle_or order None = paths order

-- the least path on a cycle, or else the build order
unfoldable pub arranged : Graph → Arrangement
arranged graph = cycle_or (build_order graph) (least_on_cycle graph)
