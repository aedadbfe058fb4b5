-- What the search finds is the least set.
use Rattle.std.specs.Prelude.{◌≡◌, ℕ, Bool, List, Some, Ok}
use Rattle.ui_types.specs.Ty.{Ty}
use Rattle.ui_types.specs.Decls.{DeclTrees}
use Rattle.ui_satisfy.specs.Comparable.{Tells}
use Rattle.ui_satisfy.specs.Search.{compared}

abbrev pub SearchIsRight : Type 0
SearchIsRight =
    (ds : DeclTrees) (bounds : List Ty) (t : Ty) (n : ℕ) (is : Bool)
    → compared ds bounds t n ≡ Some (Ok is) → Tells ds bounds t is
