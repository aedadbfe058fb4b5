-- What types have and satisfy is local: two environments that agree on a set of names, which holds
-- all that is mentioned, give the same answers. This project's own.
use Rattle.std.specs.Prelude.{◌≡◌, ℕ, Bool, true, List, All, Option, Some, None, IfOk, IfSome}
use Rattle.ui_base.specs.declared.name.Name.{Name}
use Rattle.ui_types.specs.Ty.{Ty}
use Rattle.ui_scopes.specs.Scopes.{World}
use Rattle.ui_scopes.specs.Local.{Names, TypeIn, Agree}
use Rattle.ui_sets.specs.Sites.{FoundTree, field, method, lookup}
use Rattle.ui_sets.specs.Methods.{implements}
use Rattle.ui_terms.specs.Terms.{core_type}
use Rattle.ui_satisfy.specs.Search.{compared}
use Rattle.ui_satisfy.specs.Satisfies.{satisfies}

-- the set that a test tells
abbrev pub members : (Name → Bool) → Names
members set n = set n ≡ true

-- what is found mentions only names of the set
abbrev pub FoundIn : Names → FoundTree → Type 0
FoundIn S (field k t through) = TypeIn S t
FoundIn S (method m through) = TypeIn S m.sig

abbrev pub BoundsIn : Names → List Ty → Type 0
BoundsIn S bounds = All (TypeIn S) bounds

abbrev pub LookupsAgree : Type 0
LookupsAgree =
    (set : Name → Bool) (w w' : World) (bounds : List Ty) (t : Ty) (name : Name)
    → Agree (members set) w w' → BoundsIn (members set) bounds → TypeIn (members set) t
    → lookup w.decls bounds t name ≡ lookup w'.decls bounds t name

abbrev pub LookupsStayWithin : Type 0
LookupsStayWithin =
    (set : Name → Bool) (w w' : World) (bounds : List Ty) (t : Ty) (name : Name)
    → Agree (members set) w w' → BoundsIn (members set) bounds → TypeIn (members set) t
    → IfOk (lookup w.decls bounds t name) (λ found. IfSome found (FoundIn (members set)))

abbrev pub ImplementingAgrees : Type 0
ImplementingAgrees =
    (set : Name → Bool) (w w' : World) (bounds : List Ty) (t i : Ty)
    → Agree (members set) w w' → BoundsIn (members set) bounds → TypeIn (members set) t
    → TypeIn (members set) i
    → implements w.decls bounds t i ≡ implements w'.decls bounds t i

abbrev pub CoreTypesAgree : Type 0
CoreTypesAgree =
    (set : Name → Bool) (w w' : World) (bounds : List Ty) (t : Ty)
    → Agree (members set) w w' → BoundsIn (members set) bounds → TypeIn (members set) t
    → core_type w.decls bounds t ≡ core_type w'.decls bounds t

abbrev pub CoreTypesStayWithin : Type 0
CoreTypesStayWithin =
    (set : Name → Bool) (w w' : World) (bounds : List Ty) (t : Ty)
    → Agree (members set) w w' → BoundsIn (members set) bounds → TypeIn (members set) t
    → IfOk (core_type w.decls bounds t) (λ core. IfSome core (TypeIn (members set)))

-- through so many types within one another
abbrev pub ComparingAgrees : Type 0
ComparingAgrees =
    (set : Name → Bool) (w w' : World) (bounds : List Ty) (t : Ty) (n : ℕ)
    → Agree (members set) w w' → BoundsIn (members set) bounds → TypeIn (members set) t
    → compared w.decls bounds t n ≡ compared w'.decls bounds t n

abbrev pub SatisfyingAgrees : Type 0
SatisfyingAgrees =
    (set : Name → Bool) (w w' : World) (bounds : List Ty) (t b : Ty) (n : ℕ)
    → Agree (members set) w w' → BoundsIn (members set) bounds → TypeIn (members set) t
    → TypeIn (members set) b
    → satisfies w.decls bounds t b n ≡ satisfies w'.decls bounds t b n
