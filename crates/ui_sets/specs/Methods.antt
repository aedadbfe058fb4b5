-- Whether a type implements an interface. Go specification, "Implementing an interface", "Method
-- sets".
use Rattle.std.specs.Prelude.{Bool, true, false, ◌&&◌, ◌||◌, not, List, [], ◌∷◌, Option, Some, None}
use Rattle.std.specs.Prelude.{Ok, Err}
use Rattle.ui_base.specs.declared.name.Name.{Name}
use Rattle.ui_types.specs.Ty.{Ty, Tys, iface, no_types, types}
use Rattle.ui_types.specs.Decls.{DeclTrees}
use Rattle.ui_sets.specs.declared.fault.SetFault.TheVariants.{Unfit as Unfits}
use Rattle.ui_sets.specs.declared.fault.Unfit.TheVariants.{NoMethod}
use Rattle.ui_types.specs.Same.{same_type}
use Rattle.ui_sets.specs.Needed.{Needs, ◌>>=◌, needed}
use Rattle.ui_sets.specs.Sites.{SiteTree, FoundTree, field, method, site, found_at}

-- A method of the method set, with this signature: one with a pointer receiver is in the method set
-- of `*T` alone.
abbrev pub has_method : Option FoundTree → Ty → Bool
has_method None sig = false
has_method (Some (field k t through)) sig = false
has_method (Some (method m through)) sig = (not m.pointer || through) && same_type m.sig sig

abbrev pub finds : SiteTree → Name → Ty → Needs Bool
finds s n sig = found_at s n >>= λ found. Ok (has_method found sig)

-- the methods in their order, up to the first that isn't there
abbrev pub or_lacks : Name → Needs (Unit {0}) → Bool → Needs (Unit {0})
or_lacks n rest true = rest
or_lacks n rest false = Err (Unfits (NoMethod n))

abbrev pub has_methods : SiteTree → List Name → Tys → Needs (Unit {0})
has_methods s [] sigs = Ok tt
has_methods s (n ∷ ns) no_types = Ok tt
has_methods s (n ∷ ns) (types sig sigs) = finds s n sig >>= or_lacks n (has_methods s ns sigs)

abbrev pub some_fit : DeclTrees → List Ty → Ty → List Name → Tys → Needs (Unit {0})
some_fit ds bounds t ns sigs = site ds bounds t >>= λ s. has_methods s ns sigs

-- where no method is asked for, nothing is needed
abbrev pub methods_fit : DeclTrees → List Ty → Ty → List Name → Tys → Needs (Unit {0})
methods_fit ds bounds t [] sigs = Ok tt
methods_fit ds bounds t (n ∷ ns) sigs = some_fit ds bounds t (n ∷ ns) sigs

-- the methods of an interface; what is no interface counts as the empty one
abbrev pub method_names : Ty → List Name
method_names (iface ns ts c us) = ns
method_names _ = []

abbrev pub method_sigs : Ty → Tys
method_sigs (iface ns ts c us) = ts
method_sigs _ = no_types

abbrev pub listed_fit : DeclTrees → List Ty → Ty → Ty → Needs (Unit {0})
listed_fit ds bounds t u = methods_fit ds bounds t (method_names u) (method_sigs u)

abbrev pub implements : DeclTrees → List Ty → Ty → Ty → Needs (Unit {0})
implements ds bounds t i = needed ds i >>= listed_fit ds bounds t
