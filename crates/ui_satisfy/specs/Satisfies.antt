-- Which types satisfy a constraint. Go specification, "Satisfying a type constraint".
use Rattle.std.specs.Prelude.{ℕ, Bool, true, false, List, Option, Some, None, Ok, Err, if◌then◌else◌}
use Rattle.ui_types.specs.Ty.{Ty, list_of}
use Rattle.ui_types.specs.Decls.{DeclTrees}
use Rattle.ui_sets.specs.declared.fault.SetFault.TheVariants.{Unfit as Unfits}
use Rattle.ui_sets.specs.declared.fault.Unfit.TheVariants.{NotComparable}
use Rattle.ui_sets.specs.Needed.{Needs, needed}
use Rattle.ui_sets.specs.Methods.{listed_fit}
use Rattle.ui_terms.specs.Terms.{unions_of, unions_fit}
use Rattle.ui_satisfy.specs.Comparable.{asks_comparable}
use Rattle.ui_satisfy.specs.Search.{compared}

abbrev pub Steps : Type 0 → Type 0
Steps A = Option (Needs A)

abbrev pub and_next : {A B : Type 0} → Steps A → (A → Steps B) → Steps B
and_next None f = None
and_next (Some (Err e)) f = Some (Err e)
and_next (Some (Ok x)) f = f x

abbrev pub or_not_comparable : Bool → Steps (Unit {0})
or_not_comparable true = Some (Ok tt)
or_not_comparable false = Some (Err (Unfits NotComparable))

-- where the constraint embeds `comparable`
abbrev pub comparable_fits : DeclTrees → List Ty → Ty → Bool → ℕ → Steps (Unit {0})
comparable_fits ds bounds t false n = Some (Ok tt)
comparable_fits ds bounds t true n = and_next (compared ds bounds t n) or_not_comparable

-- `comparable` and then the unions of the constraint, by its underlying type
abbrev pub fits_further : DeclTrees → List Ty → Ty → Ty → ℕ → Steps (Unit {0})
fits_further ds bounds t u n = and_next (comparable_fits ds bounds t (asks_comparable u) n)
    (λ _. Some (unions_fit ds bounds t (list_of (unions_of u))))

-- The methods of the constraint come first. What is no interface counts as the empty one.
abbrev pub fits_under : DeclTrees → List Ty → Ty → ℕ → Ty → Steps (Unit {0})
fits_under ds bounds t n u =
    and_next (Some (listed_fit ds bounds t u)) (λ _. fits_further ds bounds t u n)

-- the search for what isn't comparable takes at most so many types within one another
abbrev pub satisfies : DeclTrees → List Ty → Ty → Ty → ℕ → Steps (Unit {0})
satisfies ds bounds t b n = and_next (Some (needed ds b)) (fits_under ds bounds t n)
