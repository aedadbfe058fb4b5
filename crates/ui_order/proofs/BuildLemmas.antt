-- Taking numbers one after another builds the whole order.
use Rattle.std.specs.Prelude.{◌≡◌, ℕ, zero, suc, ◌<◌, ◌≤◌, not, nat_eq, List, [], ◌∷◌, ◌++◌, length, Some, None, refl}
use Rattle.std.proofs.Common.{◌∙◌, ap, sym, arith}
use Rattle.std.proofs.lemmas.Bool.{and_parts, not-true}
use Rattle.std.proofs.lemmas.Bool.Decides.{Decides-eqb}
use Rattle.std.proofs.lemmas.List.FromFn.{length-range_with_len}
use Rattle.std.specs.List.{list_all}
use Rattle.ui_order.specs.Steps.{has, and_then, is_ready, order_from}
use Rattle.ui_order.specs.StepLaws.{count_bound, find-passes}
use Rattle.ui_order.specs.OrderFrom.{undone-push, order_more}
use Rattle.ui_order.specs.Numbers.{Links, linked, numbers, number_order, next_number, IsNumberOrder, untaken, Builds}

pub turn_smaller : (links : Links) (order : List ℕ) (i : ℕ) → next_number links order ≡ Some i → untaken links (order ++ i ∷ []) < untaken links order
turn_smaller links order i next =
    let r = find-passes nat_eq Decides-eqb (is_ready nat_eq (linked links) order) (numbers links) i next in
    let both = and_parts (not (has nat_eq order i)) (list_all (has nat_eq order) (linked links i)) r.0 in
    undone-push nat_eq Decides-eqb (linked links) (numbers links) order i r.1 (not-true (has nat_eq order i) both.0)

pub ordered_more : (links : Links) (order : List ℕ) (i : ℕ) → IsNumberOrder links order → next_number links order ≡ Some i → IsNumberOrder links (order ++ i ∷ [])
ordered_more links order i o next = order_more nat_eq Decides-eqb (linked links) (numbers links) order i o next

pub builds_first : (links : Links) → Builds links []
unfolding number_order
builds_first links =
    let few = count_bound (λ k. not (has nat_eq [] k)) (numbers links) in
    let size = length-range_with_len 0 (length links) in
    record { steps = length links; enough = omega arith; whole = refl }

builds_step : (links : Links) (order : List ℕ) (i steps : ℕ) → next_number links order ≡ Some i → untaken links order ≤ steps → number_order links ≡ order_from nat_eq (linked links) steps (numbers links) order → Builds links (order ++ i ∷ [])
builds_step links order i zero next e w = absurd (let less = turn_smaller links order i next in omega arith)
builds_step links order i (suc m) next e w =
    let less = turn_smaller links order i next in
    record { steps = m; enough = omega arith; whole = w ∙ ap (and_then (order_from nat_eq (linked links) m (numbers links)) order) next }

pub builds_more : (links : Links) (order : List ℕ) (i : ℕ) → next_number links order ≡ Some i → Builds links order → Builds links (order ++ i ∷ [])
builds_more links order i next b = builds_step links order i b.steps next b.enough b.whole

builds_end : (links : Links) (order : List ℕ) (steps : ℕ) → next_number links order ≡ None → number_order links ≡ order_from nat_eq (linked links) steps (numbers links) order → order ≡ number_order links
builds_end links order zero next w = sym w
builds_end links order (suc m) next w = sym (w ∙ ap (and_then (order_from nat_eq (linked links) m (numbers links)) order) next)

pub builds_whole : (links : Links) (order : List ℕ) → next_number links order ≡ None → Builds links order → order ≡ number_order links
builds_whole links order next b = builds_end links order b.steps next b.whole
