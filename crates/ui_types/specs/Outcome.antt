-- What a call answers that needs types one after another: the fault of the first that is past a limit. This project's own.
use Rattle.std.specs.Prelude.{◌≡◌, ℕ, nat_lt, true, false, if◌then◌else◌, Result, Ok, Err, refl}
use Rattle.std.proofs.Common.{◌<◌, ◌≤◌, sym, ap, rules, tests}
use Rattle.ui_types.specs.declared.id.TypeId.{TypeId}
use Rattle.ui_types.specs.declared.fault.TypeFault.{TypeFault}
use Rattle.ui_types.specs.declared.fault.TypeFault.TheVariants.{TooBig, TooDeep, NoMemory}
use Rattle.ui_types.specs.Ty.{Ty, size, depth}
use Rattle.ui_types.specs.Table.{Table, max_size, max_depth, counted_size, counted_depth, IsWithinLimits, IsFaultOf, Denotes, Makes}

-- the type, where it is within the limits
abbrev pub limited : Ty → Result Ty TypeFault
limited t =
    if nat_lt max_size (size t) then Err (TooBig (counted_size (size t)))
    else (if nat_lt max_depth (depth t) then Err (TooDeep (counted_depth (depth t))) else Ok t)

-- one outcome after another
abbrev pub and_then : {A B : Type 0} → Result A TypeFault → (A → Result B TypeFault) → Result B TypeFault
and_then (Ok a) f = f a
and_then (Err e) f = Err e

-- the result is this value, read by R, or this fault, or memory ran out
abbrev pub IsOutcome : {A B : Type 0} → (A → B → Type 0) → Result A TypeFault → Result B TypeFault → Type 0
IsOutcome R (Ok a) (Ok b) = R a b
IsOutcome R (Ok a) (Err (TooBig n)) = ⊥
IsOutcome R (Ok a) (Err (TooDeep n)) = ⊥
IsOutcome R (Ok a) (Err NoMemory) = Unit {0}
IsOutcome R (Err e) (Ok b) = ⊥
IsOutcome R (Err e) (Err (TooBig n)) = e ≡ TooBig n
IsOutcome R (Err e) (Err (TooDeep n)) = e ≡ TooDeep n
IsOutcome R (Err e) (Err NoMemory) = Unit {0}

lt_true : (a b : ℕ) → a < b → nat_lt a b ≡ true
lt_true a b h = search (rules, tests)

lt_false : (a b : ℕ) → b ≤ a → nat_lt a b ≡ false
lt_false a b h = search (rules, tests)

pub limited_ok : (t : Ty) → IsWithinLimits t → limited t ≡ Ok t
limited_ok t h = let p = h.small in let q = h.shallow in rw (lt_false max_size (size t) p, lt_false max_depth (depth t) q) refl

pub limited_big : (t : Ty) (n : ℕ) → IsFaultOf t (TooBig n) → limited t ≡ Err (TooBig n)
limited_big t n h = rw (lt_true max_size (size t) h.0) (ap (λ (k : ℕ). let r : Result Ty TypeFault = Err (TooBig k) in r) (sym h.1))

pub limited_deep : (t : Ty) (n : ℕ) → IsFaultOf t (TooDeep n) → limited t ≡ Err (TooDeep n)
limited_deep t n h = rw (lt_false max_size (size t) h.0, lt_true max_depth (depth t) h.1) (ap (λ (k : ℕ). let r : Result Ty TypeFault = Err (TooDeep k) in r) (sym h.2))

-- what a call that makes this type answers
pub outcome_of_makes : (table : Table) (t : Ty) (r : Result TypeId TypeFault) → Makes table t r → IsOutcome (Denotes table) (limited t) r
outcome_of_makes table t (Ok id) h = rw (limited_ok t h.1) h.0
outcome_of_makes table t (Err (TooBig n)) h = rw (limited_big t n h) refl
outcome_of_makes table t (Err (TooDeep n)) h = rw (limited_deep t n h) refl
outcome_of_makes table t (Err NoMemory) h = any_at_no_memory (limited t)
  where
    any_at_no_memory : (u : Result Ty TypeFault) → IsOutcome (Denotes table) u (Err NoMemory)
    any_at_no_memory (Ok a) = tt
    any_at_no_memory (Err e) = tt

-- from the results of the calls to the outcome
pub ruleset limit_steps = (limited_ok, limited_big, limited_deep)
