-- Inference is local: two environments that agree on a set of names, which holds all that is
-- mentioned, infer alike. This project's own.
use Rattle.std.specs.Prelude.{◌≡◌, Bool, true, List, All, Option, IfSome, IfOk}
use Rattle.ui_base.specs.declared.name.Name.{Name}
use Rattle.ui_types.specs.Ty.{Ty}
use Rattle.ui_scopes.specs.Scopes.{World}
use Rattle.ui_scopes.specs.Local.{Names, TypeIn, Agree}
use Rattle.ui_infer.specs.Bindings.{ActualTree, inferred}

-- the set that a test tells
abbrev pub members : (Name → Bool) → Names
members set n = set n ≡ true

-- the set holds what a call's types mention
pub record CallIn (S : Names) (cores : List (Option Ty)) (formals : List Ty)
    (actuals : List ActualTree) (explicit : List Ty) : Type 0 where
  pub cores_in : All (λ c. IfSome c (TypeIn S)) cores
  pub formals_in : All (TypeIn S) formals
  pub actuals_in : All (λ a. TypeIn S a.ty) actuals
  pub explicit_in : All (TypeIn S) explicit

-- the same type arguments are inferred in both, or there is one fault
abbrev pub InferenceAgrees : Type 0
InferenceAgrees =
    (set : Name → Bool) (w w' : World) (cores : List (Option Ty)) (formals : List Ty)
    (actuals : List ActualTree) (explicit : List Ty)
    → Agree (members set) w w' → CallIn (members set) cores formals actuals explicit
    → inferred w.decls cores formals actuals explicit
    ≡ inferred w'.decls cores formals actuals explicit

-- the type arguments mention only names of the set
abbrev pub InferenceStaysWithin : Type 0
InferenceStaysWithin =
    (set : Name → Bool) (w w' : World) (cores : List (Option Ty)) (formals : List Ty)
    (actuals : List ActualTree) (explicit : List Ty)
    → Agree (members set) w w' → CallIn (members set) cores formals actuals explicit
    → IfOk (inferred w.decls cores formals actuals explicit) (All (TypeIn (members set)))
