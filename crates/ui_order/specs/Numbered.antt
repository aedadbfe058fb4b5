-- Paths and their numbers.
use Rattle.std.specs.Prelude.{◌≡◌, ℕ, ◌<◌, true, nat_eq, List, [], ◌∷◌, map, length, get_or, String, string_bytes}
use Rattle.std.specs.declared.alloc.Global.{Global}
use Rattle.indexmap.specs.IndexSet.{IndexSet}
use Rattle.ui_order.specs.Steps.{has}
use Rattle.ui_order.specs.Found.{Text, Graph, imports_of}
use Rattle.ui_order.specs.Numbers.{Links}

-- the path of a number
abbrev pub path_at : List Text → ℕ → Text
path_at paths i = get_or paths i []

-- the links at each place are those of the path there, and numbers of paths
abbrev pub AreLinksOf : Graph → List Text → List Text → Links → Type 0
AreLinksOf graph paths [] [] = Unit {0}
AreLinksOf graph paths [] (v ∷ vs) = ⊥
AreLinksOf graph paths (p ∷ ps) [] = ⊥
AreLinksOf graph paths (p ∷ ps) (v ∷ vs) =
    (map (path_at paths) v.items ≡ imports_of graph p) × ((j : ℕ) → has nat_eq v.items j ≡ true → j < length paths) × AreLinksOf graph paths ps vs

-- the paths of a set, in its order
abbrev pub names : {S : Type 0} → IndexSet (String Global) S → List Text
names paths = map string_bytes paths.keys
