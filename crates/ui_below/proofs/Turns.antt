-- Loops over what is held.
use Rattle.std.proofs.Common.{◌≡◌, ◌∙◌, sym, ap, refl, ℕ, List, [], ◌∷◌, map, filter_map, Option, Some, None, option_map, Vec}
use Rattle.std.specs.List.{cons_option}
use Rattle.std.specs.declared.alloc.Global.{Global}
use Rattle.ui_below.specs.Holding.{entry_of}
use Rattle.ui_below.specs.Join.{Apart, Stale, stale_in, first_of}
use Rattle.ui_below.specs.declared.claims.Held.{Held}

abbrev Entry : Type 0
Entry = Vec ℕ Global × Held

abbrev stales : List Entry → List Apart
stales es = filter_map stale_in (map entry_of es)

-- the entry at the front
at_front : (e : Entry) (es left all : List Entry) (other : Option (List ℕ)) → left ≡ e ∷ es → e.1.other ≡ other → stales left ≡ stales all → cons_option (option_map (Stale e.0.items e.1.print) other) (stales es) ≡ stales all
at_front e es left all other front is so_far = sym (ap (λ o. cons_option (option_map (Stale e.0.items e.1.print) o) (stales es)) is) ∙ sym (ap stales front) ∙ so_far

pub one_print : (e : Entry) (es left all : List Entry) → left ≡ e ∷ es → e.1.other ≡ None → stales left ≡ stales all → stales es ≡ stales all
one_print e es left all front is so_far = at_front e es left all None front is so_far

pub two_prints : (e : Entry) (es left all : List Entry) (second path : List ℕ) → left ≡ e ∷ es → path ≡ e.0.items → e.1.other ≡ Some second → stales left ≡ stales all → Some (Stale path e.1.print second) ≡ first_of (stales all)
two_prints e es left all second path front named is so_far = ap (λ p. Some (Stale p e.1.print second)) named ∙ ap first_of (at_front e es left all (Some second) front is so_far)

pub no_entry : (left all : List Entry) → left ≡ [] → stales left ≡ stales all → None ≡ first_of (stales all)
no_entry left all none so_far = ap first_of (sym (ap stales none) ∙ so_far)
