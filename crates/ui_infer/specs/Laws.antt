-- Laws of inference. This project's own.
use Rattle.std.specs.Prelude.{◌≡◌, List, length, Option, Ok}
use Rattle.ui_types.specs.Ty.{Ty}
use Rattle.ui_types.specs.Decls.{DeclTrees}
use Rattle.ui_infer.specs.Pairs.{BindingTree}
use Rattle.ui_infer.specs.Bindings.{RoundTree, none_taken, turns, rounds}

-- after as many rounds as there are type parameters one more changes nothing
abbrev pub RoundsEnd : Type 0
RoundsEnd =
    (ds : DeclTrees) (cores : List (Option Ty)) (es : List BindingTree) (r : RoundTree)
    → rounds ds cores (length cores) (none_taken cores es) ≡ Ok r
    → turns ds (length cores) 0 cores r ≡ Ok r
