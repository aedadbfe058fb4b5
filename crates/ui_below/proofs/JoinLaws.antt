-- The list that claims come to.
use Rattle.std.proofs.Common.{◌≡◌, ◌∙◌, sym, ap, subst, refl, ℕ, Bool, cond, List, map, filter_map, Option, Some, None, Result, Ok, Err}
use Rattle.std.specs.FinMap.{entries, contains_key}
use Rattle.ui_exports.specs.Linked.{Below}
use Rattle.ui_below.specs.Claims.{Held, ByPath, held}
use Rattle.ui_below.specs.Join.{Apart, Cycle, stale_in, below_in, first_of, unless, joined, apart_of, Joins}
use Rattle.ui_below.specs.declared.lists.JoinFault.{JoinFault}
use Rattle.ui_below.specs.declared.lists.JoinFault.TheVariants as fault

-- what is joined, by what is held
abbrev joined_in : List ℕ → ByPath Held → Option Apart → Result (List Below) Apart
joined_in own m stale = unless stale (cond (contains_key m own) (Err Cycle) (Ok (map below_in (entries m))))

by_held : (own : List ℕ) (cs : List Below) (m : ByPath Held) (stale : Option Apart) → m ≡ held cs → stale ≡ first_of (filter_map stale_in (entries m)) → joined own cs ≡ joined_in own m stale
unfolding joined
by_held own cs m stale is e = sym (ap (joined_in own m) e ∙ ap (λ x. joined_in own x (first_of (filter_map stale_in (entries x)))) is)

fails : (own : List ℕ) (m : ByPath Held) (f : JoinFault) → Joins (joined_in own m (apart_of (Some f))) (Err f)
fails own m (fault.Stale path first second) = refl
fails own m fault.Cycle = refl
fails own m fault.NoMemory = tt

pub joined_stale : (own : List ℕ) (cs : List Below) (m : ByPath Held) (o : Option JoinFault) (f : JoinFault) → m ≡ held cs → o ≡ Some f → apart_of o ≡ first_of (filter_map stale_in (entries m)) → Joins (joined own cs) (Err f)
joined_stale own cs m o f is some e =
    let P : Result (List Below) Apart → Type 0 = λ r. Joins r (Err f) in
    subst P (sym (by_held own cs m (apart_of (Some f)) is (sym (ap apart_of some) ∙ e))) (fails own m f)

pub joined_none : (own : List ℕ) (cs : List Below) (m : ByPath Held) (o : Option JoinFault) (there : Bool) → m ≡ held cs → o ≡ None → apart_of o ≡ first_of (filter_map stale_in (entries m)) → contains_key m own ≡ there
    → joined own cs ≡ cond there (Err Cycle) (Ok (map below_in (entries m)))
joined_none own cs m o there is none e key = by_held own cs m None is (sym (ap apart_of none) ∙ e) ∙ ap (λ b. cond b (Err Cycle) (Ok (map below_in (entries m)))) key
