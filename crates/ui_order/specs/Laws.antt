-- What holds of discovery, of cycles and of the build order. This project's own.
use Rattle.std.specs.Prelude.{◌≡◌, ◌↔◌, ◌+◌, ◌++◌, false, true, List, ◌∷◌, Some, None, bytes_eq}
use Rattle.std.specs.FinMap.{contains_key, len}
use Rattle.ui_order.specs.Steps.{has}
use Rattle.ui_order.specs.Found.{Text, Graph, Found, IsFound, IsClosed, imports_of, begun, least_unread, with_imports}
use Rattle.ui_order.specs.Order.{build_order, arranged, on_cycle, IsOnCycle, paths}

abbrev pub BeginsFound : Type 0
BeginsFound = (root : Text) → IsFound root (begun root)

-- each step keeps what stands from the beginning on
abbrev pub KeepsFound : Type 0
KeepsFound = (root : Text) (found : Found) (path : Text) (imports : List Text) → IsFound root found → IsFound root (with_imports found path imports)

-- a path that is read at its turn wasn't read before, so that one more is read
abbrev pub ReadsOneMore : Type 0
ReadsOneMore = (root : Text) (found : Found) (path : Text) (imports : List Text) → IsFound root found → least_unread found ≡ Some path → len (with_imports found path imports).read ≡ len found.read + 1

-- where nothing is unread, the root is read and each import of a read path is read
abbrev pub ClosesAtEnd : Type 0
ClosesAtEnd = (root : Text) (found : Found) → IsFound root found → least_unread found ≡ None → (contains_key found.read root ≡ true) × IsClosed found.read

-- as many imports as the graph has paths are enough to come back to a path
abbrev pub ComputesCycles : Type 0
ComputesCycles = (graph : Graph) (path : Text) → (on_cycle graph path ≡ true) ↔ IsOnCycle graph path

-- each path of the order is the graph's, stands once, and its imports stand before it
abbrev pub TakesImportsFirst : Type 0
TakesImportsFirst = (graph : Graph) (before after : List Text) (path : Text) → build_order graph ≡ before ++ path ∷ after
    → (contains_key graph path ≡ true) × (has bytes_eq before path ≡ false) × ((q : Text) → has bytes_eq (imports_of graph path) q ≡ true → has bytes_eq before q ≡ true)

-- without a cycle the order has each path
abbrev pub TakesAll : Type 0
TakesAll = (graph : Graph) → IsClosed graph → ((p : Text) → IsOnCycle graph p → ⊥) → (path : Text) → contains_key graph path ≡ true → has bytes_eq (build_order graph) path ≡ true

-- no order has a path on a cycle
abbrev pub TakesNoCycle : Type 0
TakesNoCycle = (graph : Graph) (path : Text) → IsOnCycle graph path → has bytes_eq (build_order graph) path ≡ false

-- an order is answered exactly where no path is on a cycle
abbrev pub ArrangesAcyclic : Type 0
ArrangesAcyclic = (graph : Graph) (order : List Text) → (arranged graph ≡ paths order) ↔ ((order ≡ build_order graph) × ((p : Text) → IsOnCycle graph p → ⊥))
