-- What the code's numbers of nodes stand for.
use Rattle.std.specs.Prelude.{ℕ, List, [], ◌∷◌, map, Option, Vec, bytes_eq}
use Rattle.std.specs.declared.alloc.Global.{Global}
use Rattle.std.specs.Map.{lookup}
use Rattle.ui_needs.specs.declared.numbers.Nodes.{Nodes}
use Rattle.ui_needs.specs.Needs.{Numbers}

-- the nodes of each name
abbrev pub found_in : List (List ℕ × Nodes) → Numbers
found_in entries n = lookup (bytes_eq n) entries

abbrev pub lists : List (Vec ℕ Global) → List (List ℕ)
lists links = map (λ v. v.items) links
