-- What the parts of a linked file stand for. This project's own.
use Rattle.std.specs.Prelude.{◌≡◌, ℕ, ◌<◌, List, [], ◌∷◌, ◌++◌, map, flat_map, length, true, false, Option, Some, None, slice_index_or, bytes_eq, nat_eq, pos, negsuc}
use Rattle.std.specs.List.{AllByRecursion, Contains, IsDistinct}
use Rattle.std.specs.List.Sorted.{IsStrictlySortedBy}
use Rattle.std.specs.Ordering.{nat_cmp}
use Rattle.std.specs.Cmp.Lexicographic.{slice_cmp}
use Rattle.std.specs.FinMap.{from_entries}
use Rattle.ui_frame.specs.Container.{Parts, IsContainer}
use Rattle.ui_strpos.specs.declared.shape.Shape.{Shape}
use Rattle.ui_strpos.specs.Contexts.{context}
use Rattle.ui_strpos.specs.Format.{InGrammar}
use Rattle.ui_strpos.specs.Reading.{Context}
use Rattle.ui_strpos.specs.Elements as one
use Rattle.ui_eobj.specs.Values.{magnitude}
use Rattle.ui_eobj.specs.Objects as object
use Rattle.ui_eobj.specs.Roots as root
use Rattle.ui_eobj.specs.declared.root.BelowEl.{BelowEl}
use Rattle.ui_eobj.specs.declared.value.ValueEl.{ValueEl}
use Rattle.ui_eobj.specs.declared.value.ValueEl.TheVariants as value
use Rattle.ui_exports.specs.Export.{Declaration}
use Rattle.ui_exports.specs.Linked.{Below, Linked}
use Rattle.ui_consts.specs.Elements.{Elements, Entry, spelled, base_of, package_of, name_of, object_of, public_of, private_of}

-- ---- what elements stand for

-- a String by its place
abbrev pub text_of : List (List ℕ) → ℕ → List ℕ
text_of strings k = slice_index_or strings k []

-- a value that isn't negative
abbrev pub value_of : List (List ℕ) → ValueEl → Option ℕ
value_of strings (value.Int64 (pos n)) = Some n
value_of strings (value.Int64 (negsuc n)) = None
value_of strings (value.Big k true) = None
value_of strings (value.Big k false) = Some (magnitude (text_of strings k))

abbrev pub number : Option ℕ → ℕ
number None = 0
number (Some n) = n

-- a constant's name and what it declares, over the Strings and the PosBases
abbrev pub declared_by : List (List ℕ) → List ℕ → Entry → List ℕ × Declaration
declared_by strings bases e =
    (text_of strings e.name, record { file = text_of strings (slice_index_or bases e.base 0); line = e.line; column = e.column; value = number (value_of strings e.value) })

abbrev pub below_by : List (List ℕ) → BelowEl → Below
below_by strings b = record { path = text_of strings b.path; print = text_of strings b.print; direct = b.direct }

unfoldable pub meaning : Elements → Linked
meaning x = record {
  export = record { path = text_of x.strings x.path; name = text_of x.strings x.name; decls = from_entries (map (declared_by x.strings x.bases) x.entries) };
  below = map (below_by x.strings) x.below;
}

-- what the elements are read over
abbrev pub plain : Shape
plain = record { code = 0; params = 0; methods = 0 }

abbrev pub over : Parts → Context
over parts = context 0 plain parts

-- a name in the order of the public root
abbrev pub name_at : Elements → ℕ → List ℕ
name_at x place = slice_index_or (map (λ e. text_of x.strings e.name) x.entries) place []

abbrev pub IsPositive : List (List ℕ) → Entry → Type 0
IsPositive strings e = (n : ℕ) × (value_of strings e.value ≡ Some n)

-- ---- what elements use

abbrev pub value_uses : ValueEl → List ℕ
value_uses (value.Int64 z) = []
value_uses (value.Big k negative) = k ∷ []

abbrev pub entry_uses : Entry → List ℕ
entry_uses e = e.name ∷ value_uses e.value

abbrev pub below_uses : BelowEl → List ℕ
below_uses b = b.path ∷ b.print ∷ []

-- the places of the Strings that elements use
abbrev pub string_uses : Elements → List ℕ
string_uses x = (x.path ∷ x.name ∷ []) ++ ((x.bases ++ flat_map entry_uses x.entries) ++ flat_map below_uses x.below)

-- the places of the files that constants are declared in
abbrev pub base_uses : Elements → List ℕ
base_uses x = map (λ e. e.base) x.entries

-- each of so many places is used
abbrev pub AllUsed : ℕ → List ℕ → Type 0
AllUsed count uses = (k : ℕ) → k < count → Contains uses k

-- No String stands twice, and none that no element uses; no file stands twice, and none that no constant is declared in.
-- Each element is in its grammar, so all places are there, and Strings have the form that their
-- uses ask for. No value is negative. The public root has each constant once, ascending by name, so no two have one name.
pub record Fits (x : Elements) : Type 0 where
  pub apart : IsDistinct bytes_eq x.strings
  pub strings_used : AllUsed (length x.strings) (string_uses x)
  pub files_apart : IsDistinct nat_eq x.bases
  pub files_used : AllUsed (length x.bases) (base_uses x)
  pub bases : AllByRecursion (λ file. InGrammar one.posbase (over (spelled x)) (base_of file)) x.bases
  pub its_package : InGrammar one.pkg (over (spelled x)) (package_of x)
  pub names : AllByRecursion (λ e. InGrammar one.name (over (spelled x)) (name_of e)) x.entries
  pub objects : AllByRecursion (λ e. InGrammar object.constant (over (spelled x)) (object_of e)) x.entries
  pub values : AllByRecursion (IsPositive x.strings) x.entries
  pub public_root : InGrammar root.public_root (over (spelled x)) (public_of x)
  pub private_root : InGrammar root.private_root (over (spelled x)) (private_of x)
  pub all : length x.order ≡ length x.entries
  pub ascending : IsStrictlySortedBy (slice_cmp nat_cmp) (map (name_at x) x.order)

-- the parts stand for what a linked file says
abbrev pub StandsFor : Parts → Linked → Type 0
StandsFor parts l = (x : Elements) × Fits x × (parts ≡ spelled x) × (meaning x ≡ l)

-- the bytes are a container that stands for it
abbrev pub Holds : List ℕ → Linked → Type 0
Holds bytes l = (parts : Parts) × IsContainer bytes parts × StandsFor parts l
