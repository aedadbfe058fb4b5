-- Packages with their imports, and how far the packages that one needs are found. Go specification, "Import
-- declarations"; the rest is this project's own.
use Rattle.std.specs.Prelude.{◌≡◌, ℕ, ◌+◌, Bool, true, false, ◌||◌, if◌then◌else◌, List, [], ◌∷◌, Option, slice_get, unwrap_or, bytes_eq, refl}
use Rattle.std.specs.Ordering.{nat_cmp}
use Rattle.std.specs.Cmp.Lexicographic.{slice_cmp}
use Rattle.std.specs.Coded.{Coded, coded_ℕ, coded_list, coded×, code_by}
use base.Stored.{coded_unit}
use Rattle.std.specs.FinMap.{FinMap, code, empty, get, contains_key, insert, remove, len, keys}
use Rattle.ui_order.specs.Steps.{has}

-- the bytes of a path
abbrev pub Text : Type 0
Text = List ℕ

-- paths, ascending by their bytes
abbrev pub Paths : Type 0
Paths = FinMap (slice_cmp nat_cmp) (Unit {0})

-- packages by their paths, each with its direct imports
abbrev pub Graph : Type 0
Graph = FinMap (slice_cmp nat_cmp) (List Text)

-- the direct imports of a path; none where the graph lacks it
abbrev pub imports_of : Graph → Text → List Text
imports_of graph path = unwrap_or (get graph path) []

-- each import of a path is a path of the graph
abbrev pub IsClosed : Graph → Type 0
IsClosed graph = (p q : Text) → has bytes_eq (imports_of graph p) q ≡ true → contains_key graph q ≡ true

-- the found paths: those not read yet, and those read, with their imports
pub record Found : Type 0 where
  pub unread : Paths
  pub read : Graph

-- at the beginning the root alone is found
unfoldable pub begun : Text → Found
begun root = record { unread = insert empty root tt; read = empty }

-- the least path that isn't read yet
abbrev pub least_unread : Found → Option Text
least_unread found = slice_get (keys found.unread) 0

-- how many paths are found
abbrev pub found_count : Found → ℕ
found_count found = len found.unread + len found.read

abbrev pub is_found : Found → Text → Bool
is_found found path = contains_key found.unread path || contains_key found.read path

-- the paths, with those of the list that are not read
abbrev pub with_unread : Graph → Paths → List Text → Paths
with_unread read unread [] = unread
with_unread read unread (p ∷ ps) = with_unread read (if contains_key read p then unread else insert unread p tt) ps

-- a path was read and has these imports: those that are not read are found
unfoldable pub with_imports : Found → Text → List Text → Found
with_imports found path imports = record {
  unread = with_unread (insert found.read path imports) (remove found.unread path) imports;
  read = insert found.read path imports;
}

-- What stands at each step from the beginning on: the root is found, each import of a read path is found, and no path
-- is both read and unread.
pub record IsFound (root : Text) (found : Found) : Type 0 where
  pub holds_root : is_found found root ≡ true
  pub holds_imports : (p q : Text) → has bytes_eq (imports_of found.read p) q ≡ true → is_found found q ≡ true
  pub apart : (p : Text) → contains_key found.unread p ≡ true → contains_key found.read p ≡ false

-- a code, by which `Found` is the value of a model
abbrev pub found_code : Coded Found
found_code = code_by (Paths × Graph) (coded× (code (coded_list coded_ℕ) coded_unit) (code (coded_list coded_ℕ) (coded_list (coded_list coded_ℕ))))
    (λ f. (f.unread, f.read)) (λ p. record { unread = p.0; read = p.1 }) (λ _. refl)
