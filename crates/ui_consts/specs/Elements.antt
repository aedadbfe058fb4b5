-- The elements of the linked file of a package of constants. This project's own.
use Rattle.std.specs.Prelude.{ℕ, List, [], ◌∷◌, map}
use Rattle.ui_frame.specs.Container.{Parts}
use Rattle.ui_strpos.specs.Format.{Format}
use Rattle.ui_strpos.specs.Items.{spelling}
use Rattle.ui_strpos.specs.Elements as one
use Rattle.ui_strpos.specs.declared.posbase.PosBaseEl.{PosBaseEl}
use Rattle.ui_strpos.specs.declared.pkg.PkgEl.{PkgEl}
use Rattle.ui_strpos.specs.declared.name.NameEl.{NameEl}
use Rattle.ui_strpos.specs.declared.name.NameKind.TheVariants.{Const}
use Rattle.ui_eobj.specs.Objects as object
use Rattle.ui_eobj.specs.Roots as root
use Rattle.ui_eobj.specs.declared.object.ConstEl.{ConstEl}
use Rattle.ui_eobj.specs.declared.root.ObjectUse.{ObjectUse}
use Rattle.ui_eobj.specs.declared.root.BelowEl.{BelowEl}
use Rattle.ui_eobj.specs.declared.root.PublicRootEl.{PublicRootEl}
use Rattle.ui_eobj.specs.declared.root.PrivateRootEl.{PrivateRootEl}
use Rattle.ui_eobj.specs.declared.value.ValueEl.{ValueEl}

-- a constant: the places of its name among the Strings and of its file among the PosBases, and what they don't say
pub record Entry : Type 0 where
  pub name : ℕ
  pub base : ℕ
  pub line : ℕ
  pub column : ℕ
  pub value : ValueEl

-- What the elements of a file are made of: the Strings, the places of the package's path and name among them, for each
-- PosBase the place of its file's name, the constants, the places of the constants in the order of the public root, and
-- the packages below.
pub record Elements : Type 0 where
  pub strings : List (List ℕ)
  pub path : ℕ
  pub name : ℕ
  pub bases : List ℕ
  pub entries : List Entry
  pub order : List ℕ
  pub below : List BelowEl

-- ---- the elements

abbrev pub base_of : ℕ → PosBaseEl
base_of file = record { file = file }

abbrev pub package_of : Elements → PkgEl
package_of x = record { path = x.path; name = x.name }

-- the Name of a constant, of the one Pkg
abbrev pub name_of : Entry → NameEl
name_of e = record { pkg = 0; name = e.name; kind = Const }

-- the Obj of a constant, of the one Type
abbrev pub object_of : Entry → ConstEl
object_of e = record { pos = record { base = e.base; line = e.line; column = e.column }; ty = 0; value = e.value }

abbrev pub use_of : ℕ → ObjectUse
use_of k = record { object = k }

abbrev pub public_of : Elements → PublicRootEl
public_of x = record { pkg = 0; objects = map use_of x.order }

abbrev pub private_of : Elements → PrivateRootEl
private_of x = record { below = x.below }

-- ---- their bytes

abbrev pub spelled_as : {A : Type 0} → Format A → A → List ℕ
spelled_as f a = spelling (f.items a)

-- Type: no table; 0, the code of a basic type; and 20, an untyped whole number
abbrev pub type_bytes : List ℕ
type_bytes = 0 ∷ 0 ∷ 20 ∷ []

-- ObjExt: nothing
abbrev pub extension_bytes : List ℕ
extension_bytes = 0 ∷ []

-- ObjDict: nothing, seven times
abbrev pub dictionary_bytes : List ℕ
dictionary_bytes = 0 ∷ 0 ∷ 0 ∷ 0 ∷ 0 ∷ 0 ∷ 0 ∷ 0 ∷ []

-- the one Type stands where there is a constant
abbrev pub types_of : List Entry → List (List ℕ)
types_of [] = []
types_of (e ∷ es) = type_bytes ∷ []

-- the sections, in the order of their numbers
unfoldable pub spelled : Elements → Parts
spelled x =
    x.strings
    ∷ (spelled_as root.public_root (public_of x) ∷ spelled_as root.private_root (private_of x) ∷ [])
    ∷ map (λ file. spelled_as one.posbase (base_of file)) x.bases
    ∷ (spelled_as one.pkg (package_of x) ∷ [])
    ∷ map (λ e. spelled_as one.name (name_of e)) x.entries
    ∷ types_of x.entries
    ∷ map (λ e. spelled_as object.constant (object_of e)) x.entries
    ∷ map (λ e. extension_bytes) x.entries
    ∷ map (λ e. dictionary_bytes) x.entries
    ∷ []
    ∷ []
