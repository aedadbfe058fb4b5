-- A declared type beside a type literal. Go specification, "Type unification".
use Rattle.std.specs.Prelude.{Bool, true, false, ◌&&◌, if◌then◌else◌, Ok, List}
use Rattle.std.specs.Prelude.{Option, ℕ}
use Rattle.ui_types.specs.Ty.{Ty, basic, named}
use Rattle.ui_types.specs.Ty.{param}
use Rattle.ui_types.specs.Decls.{DeclTrees}
use Rattle.ui_infer.specs.Faults.{Infers, ◌>>=◌, need}
use Rattle.ui_infer.specs.Pairs.{BindingTree, pairs}

abbrev pub is_named : Ty → Bool
is_named (named n ts) = true
is_named _ = false

-- composed of other types, and no name
abbrev pub is_literal : Ty → Bool
is_literal (basic b) = false
is_literal (named n ts) = false
is_literal (param k) = false
is_literal _ = true

-- At the top alone a declared type beside a type literal counts as its underlying type.
abbrev pub topped : DeclTrees → Ty → Ty → Infers (Ty × Ty)
topped ds t u =
    if is_named t && is_literal u then (need ds t >>= λ v. Ok (v, u))
    else (if is_literal t && is_named u then (need ds u >>= λ v. Ok (t, v)) else Ok (t, u))

abbrev pub top_pairs : DeclTrees → ℕ → Ty → Ty → Infers (List (Option BindingTree))
top_pairs ds n t u = topped ds t u >>= λ p. Ok (pairs n p.0 p.1)
