-- The packages below a package, by what the linked files of its imports say. This project's own.
use Rattle.std.specs.Prelude.{◌≡◌, ℕ, Bool, true, false, is_some, List, [], ◌∷◌, map, filter, filter_map, bytes_eq, Option, Some, None, option_map, Result, Ok, Err, if◌then◌else◌, Vec, ⊤}
use Rattle.std.specs.List.{list_all, list_any, AllByRecursion}
use Rattle.std.specs.List.Sorted.{IsStrictlySortedBy}
use Rattle.std.specs.Ordering.{nat_cmp}
use Rattle.std.specs.Cmp.Lexicographic.{slice_cmp}
use Rattle.std.specs.FinMap.{contains_key, entries, from_entries, get}
use Rattle.std.specs.declared.alloc.Global.{Global}
use Rattle.ui_exports.specs.Linked.{Below, belows}
use Rattle.ui_exports.specs.declared.linked.Below.{Below as HeldBelow}
use Rattle.ui_below.specs.Claims.{Held, ByPath, claim, held}
use Rattle.ui_below.specs.declared.lists.JoinFault.{JoinFault}
use Rattle.ui_below.specs.declared.lists.JoinFault.TheVariants as fault

-- why lists don't join: two fingerprints of one path; or the package is below itself
pub data Apart : Type 0 where
  Stale : List ℕ → List ℕ → List ℕ → Apart
  Cycle : Apart

abbrev pub stale_in : List ℕ × Held → Option Apart
stale_in e = option_map (Stale e.0 e.1.print) e.1.other

abbrev pub below_in : List ℕ × Held → Below
below_in e = claim e.0 e.1.print e.1.direct

abbrev pub first_of : List Apart → Option Apart
first_of [] = None
first_of (a ∷ more) = Some a

abbrev pub unless : Option Apart → Result (List Below) Apart → Result (List Below) Apart
unless (Some a) r = Err a
unless None r = r

-- The list of the packages below, ascending by path. The least path with two different fingerprints goes before a
-- package that is below itself.
unfoldable pub joined : List ℕ → List Below → Result (List Below) Apart
joined own cs =
    unless (first_of (filter_map stale_in (entries (held cs))))
    (if contains_key (held cs) own then Err Cycle else Ok (map below_in (entries (held cs))))

-- a fault as it lies in memory
abbrev pub apart_of : Option JoinFault → Option Apart
apart_of None = None
apart_of (Some (fault.Stale path first second)) = Some (Stale path first second)
apart_of (Some fault.Cycle) = Some Cycle
apart_of (Some fault.NoMemory) = None

-- the result is what is wanted, but for want of memory
abbrev pub Joins : Result (List Below) Apart → Result (Vec HeldBelow Global) JoinFault → Type 0
Joins want (Ok v) = want ≡ Ok (belows v)
Joins want (Err (fault.Stale path first second)) = want ≡ Err (Stale path first second)
Joins want (Err fault.Cycle) = want ≡ Err Cycle
Joins want (Err fault.NoMemory) = ⊤

-- ---- by the sources alone

-- the paths, each with whether it is a direct import, ascending
unfoldable pub marked : List (List ℕ × Bool) → ByPath Bool
marked ms = from_entries (map (λ m. (m.0, list_any (λ n. n.1) (filter (λ n. bytes_eq m.0 n.0) ms))) ms)

-- ---- laws

-- Where each path has one fingerprint, and the package isn't below itself, the list is that of the paths.
abbrev pub JoinedAsMarked : Type 0
JoinedAsMarked = (own : List ℕ) (cs : List Below) (print : List ℕ → List ℕ) → AllByRecursion (λ c. c.print ≡ print c.path) cs → AllByRecursion (λ c. bytes_eq own c.path ≡ false) cs
    → joined own cs ≡ Ok (map (λ e. claim e.0 (print e.0) e.1) (entries (marked (map (λ c. (c.path, c.direct)) cs))))

-- The list ascends, and what holds of each claim's path and fingerprint holds in it.
abbrev pub JoinedIsListed : Type 0
JoinedIsListed = (own : List ℕ) (cs list : List Below) → joined own cs ≡ Ok list → IsStrictlySortedBy (slice_cmp nat_cmp) (map (λ b. b.path) list)

abbrev pub JoinedHolds : Type 0
JoinedHolds = (test : List ℕ → List ℕ → Bool) (own : List ℕ) (cs list : List Below) → list_all (λ c. test c.path c.print) cs ≡ true → joined own cs ≡ Ok list → list_all (λ b. test b.path b.print) list ≡ true

-- A path has a mark exactly where it is among them.
abbrev pub MarksThePaths : Type 0
MarksThePaths = (ms : List (List ℕ × Bool)) (path : List ℕ) → is_some (get (marked ms) path) ≡ list_any (λ m. bytes_eq path m.0) ms
