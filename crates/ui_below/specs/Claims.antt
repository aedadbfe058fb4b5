-- What linked files say of the packages below. This project's own.
use Rattle.std.specs.Prelude.{ℕ, Bool, true, false, not, List, [], ◌∷◌, ◌++◌, map, filter, slice_index_or, slice_get, Option, bytes_eq}
use Rattle.std.specs.List.{list_any}
use Rattle.std.specs.Ordering.{nat_cmp}
use Rattle.std.specs.Cmp.Lexicographic.{slice_cmp}
use Rattle.std.specs.FinMap.{FinMap, from_entries}
use Rattle.ui_exports.specs.Linked.{Below, Linked}

-- A claim is a path with the fingerprint that is named for it, and whether it is a direct import. A file claims its own
-- fingerprint first, as a direct import, and then those of its list.
abbrev pub claim : List ℕ → List ℕ → Bool → Below
claim path print direct = record { path = path; print = print; direct = direct }

abbrev pub indirect : Below → Below
indirect b = claim b.path b.print false

abbrev pub claims_of : Linked → List ℕ → List Below
claims_of file print = claim file.export.path print true ∷ map indirect file.below

-- the claims of files, each with its own fingerprint
abbrev pub claims : List Linked → List (List ℕ) → List Below
claims [] prints = []
claims (file ∷ files) [] = []
claims (file ∷ files) (print ∷ prints) = claims_of file print ++ claims files prints

-- the claims about a path, in their order
abbrev pub about : List ℕ → List Below → List Below
about path cs = filter (λ c. bytes_eq path c.path) cs

-- what is claimed about one path: the first fingerprint, the first that differs from it, and whether it is imported directly
pub record Held : Type 0 where
  pub print : List ℕ
  pub other : Option (List ℕ)
  pub direct : Bool

abbrev pub first_print : List Below → List ℕ
first_print cs = slice_index_or (map (λ c. c.print) cs) 0 []

unfoldable pub held_of : List Below → Held
held_of cs = record { print = first_print cs; other = slice_get (filter (λ p. not (bytes_eq (first_print cs) p)) (map (λ c. c.print) cs)) 0; direct = list_any (λ c. c.direct) cs }

abbrev pub ByPath : Type 0 → Type 0
ByPath X = FinMap (slice_cmp nat_cmp) X

-- what is claimed, by path
unfoldable pub held : List Below → ByPath Held
held cs = from_entries (map (λ c. (c.path, held_of (about c.path cs))) cs)
