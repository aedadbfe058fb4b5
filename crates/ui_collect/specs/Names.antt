-- Names of a package, and one rule after another over a list. Go specification, "Declarations and
-- scope".
use Rattle.std.specs.Prelude.{ℕ, Bool, ◌&&◌, ◌||◌, List, [], ◌∷◌, ◌++◌, Ok, Err, codes}
use Rattle.std.specs.Prelude.{bytes_eq, if◌then◌else◌}
use Rattle.std.specs.List.{list_any}
use Rattle.ui_base.specs.declared.value.Spot.{Spot}
use Rattle.ui_base.specs.declared.fault.FaultKind.{FaultKind}
use Rattle.ui_scopes.specs.Steps.{Checks, ◌>>=◌, fault_at}

abbrev pub Names : Type 0
Names = List (List ℕ)

abbrev pub is_among : Names → List ℕ → Bool
is_among names n = list_any (bytes_eq n) names

abbrev pub with_name : Names → List ℕ → Names
with_name names n = if is_among names n then names else names ++ n ∷ []

-- "Blank identifier"
abbrev pub is_blank : List ℕ → Bool
is_blank n = bytes_eq n (codes "_")

-- "Package initialization": `init` can't be referred to
abbrev pub is_init : List ℕ → Bool
is_init n = bytes_eq n (codes "init")

-- "Package initialization", "Program execution": these names are of functions without parameters
-- and results alone
abbrev pub is_function_name : List ℕ → List ℕ → Bool
is_function_name home n = is_init n || (bytes_eq home (codes "main") && bytes_eq n (codes "main"))

abbrev pub refuse_name : {A : Type 0} → List ℕ → Spot → FaultKind → List ℕ → Checks A
refuse_name file at kind name = Err (fault_at file at kind name)

-- a rule for each of a list, from left to right, by what stands before it
abbrev pub steps : {S A : Type 0} → (S → A → Checks S) → S → List A → Checks S
steps rule s [] = Ok s
steps rule s (x ∷ xs) = rule s x >>= λ t. steps rule t xs
