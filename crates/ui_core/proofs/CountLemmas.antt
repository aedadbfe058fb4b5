-- A count of a list that is done.
use Rattle.std.proofs.Common.{◌≡◌, ℕ, ◌+◌, ◌-◌, ◌^◌, ◌≤◌, List, [], length, drop, ap, ◌∙◌, arith}
use Rattle.std.proofs.lemmas.List.{drop_all}
use Rattle.ui_core.specs.Cost.{capped}

pub counted : {A : Type 0} (cost : List A → ℕ) (xs : List A) (i total n : ℕ) → cost [] ≡ 0 → length xs ≤ i → total ≤ 2 ^ 64 - 1 → capped (total + cost (drop i xs)) ≡ capped (n + cost xs) → total ≡ capped (n + cost xs)
counted cost xs i total n none h bound e =
    let d : cost (drop i xs) ≡ 0 = ap cost (drop_all i xs h) ∙ none in
    omega (arith, d, e, bound)
