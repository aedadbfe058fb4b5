-- Paths and packages in the maps of the code, as the definitions see them.
use Rattle.std.specs.Prelude.{List, map, Vec, String, string_bytes}
use Rattle.std.specs.declared.alloc.Global.{Global}
use Rattle.std.specs.FinMap.{from_entries}
use Rattle.ui_base.specs.Entries.{entry_of, map_of}
use Rattle.ui_order.specs.Found.{Text, Paths, Graph}

abbrev pub Entry : Type 0
Entry = String Global × Vec (String Global) Global

abbrev pub texts : Vec (String Global) Global → List Text
texts v = map string_bytes v.items

abbrev pub package_of : Entry → Text × List Text
package_of e = entry_of string_bytes texts e

abbrev pub path_of : String Global → Text × Unit {0}
path_of k = (string_bytes k, tt)

unfoldable pub paths_of : List (String Global) → Paths
paths_of ks = from_entries (map path_of ks)

unfoldable pub graph_of : List Entry → Graph
graph_of es = map_of string_bytes texts es
