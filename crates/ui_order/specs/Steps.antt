-- Steps along imports. K is the paths, or the numbers that stand for them; eq tells two of them apart.
use Rattle.std.specs.Prelude.{◌≡◌, ℕ, zero, suc, Bool, true, ◌&&◌, ◌||◌, not, List, [], ◌∷◌, ◌++◌, Option, Some, None, find, flat_map}
use Rattle.std.specs.List.{list_any, list_all}

-- whether the list has the element
abbrev pub has : {K : Type 0} → (K → K → Bool) → List K → K → Bool
has eq xs x = list_any (eq x) xs

-- one more is taken, and then the rest; or nothing is left to take
abbrev pub and_then : {K : Type 0} → (List K → List K) → List K → Option K → List K
and_then rest taken None = taken
and_then rest taken (Some p) = rest (taken ++ p ∷ [])

module _ {K : Type 0} (eq : K → K → Bool) (imports : K → List K) where
  -- not taken, and each import is taken
  abbrev pub is_ready : List K → K → Bool
  is_ready taken p = not (has eq taken p) && list_all (has eq taken) (imports p)

  -- at most n more are taken, each time the first of the keys that is ready
  abbrev pub order_from : ℕ → List K → List K → List K
  order_from zero keys taken = taken
  order_from (suc n) keys taken = and_then (order_from n keys) taken (find (is_ready taken) keys)

  -- whether at most n imports lead from one of these to q
  abbrev pub reaches : ℕ → List K → K → Bool
  reaches zero ps q = has eq ps q
  reaches (suc n) ps q = has eq ps q || reaches n (flat_map imports ps) q

  -- a list of imports leads from p to q
  pub data Leads (p : K) : K → Type 0 where
    direct : {q : K} → has eq (imports p) q ≡ true → Leads p q
    onward : {q r : K} → Leads p q → has eq (imports q) r ≡ true → Leads p r
