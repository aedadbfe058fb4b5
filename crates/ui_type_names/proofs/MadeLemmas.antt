-- Types that are always within the limits.
use Rattle.std.proofs.Common.{◌≡◌, ℕ, Bool, List, [], Ok, refl}
use Rattle.ui_base.specs.declared.name.Name.{Name}
use Rattle.ui_base.specs.declared.value.Spot.{Spot}
use Rattle.ui_types.specs.Ty.{named, iface, no_types}
use Rattle.ui_scopes.specs.Steps.{made_at}

pub made_named : (file : List ℕ) (at : Spot) (n : Name) → made_at file at (named n no_types) ≡ Ok
    (named n no_types)
unfolding made_at
made_named file at n = refl

pub made_interface : (file : List ℕ) (at : Spot) (c : Bool) → made_at file at (iface [] no_types c
    no_types) ≡ Ok (iface [] no_types c no_types)
unfolding made_at
made_interface file at c = refl

pub ruleset making = (made_named, made_interface)
